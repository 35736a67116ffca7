-- A walk of a rising list beside another.
use Rattle.std.proofs.Common.{◌≡◌, ◌≢◌, ℕ, false, ◌+◌, ◌<◌, ◌≤◌, List, [], ◌∷◌, ◌++◌, length, get_or, take, sym, ap}
use Rattle.std.proofs.Common.{◌∙◌, subst, arith, inl, inr}
use Rattle.std.specs.List.{flat_map}
use Rattle.std.proofs.lemmas.Bool.{cases_lt}
use Rattle.std.proofs.lemmas.List.{append-nil, take_more, get_or-map, length-map}
use Rattle.std.proofs.lemmas.List.Concat.{flat_map-append}
use Rattle.rising_lists.specs.Rising.{IsRising, has, keys}
use Rattle.rising_lists.proofs.Keyed.{has-absent}

-- what was passed up to the place, and from there on
pub all-passed : (ks : List ℕ) (at now c : ℕ) → ((a : ℕ) → a < at → get_or ks a 0 < c)
    → ((a : ℕ) → at ≤ a → a < now → get_or ks a 0 < c)
    → (a : ℕ) → a < now → get_or ks a 0 < c
all-passed ks at now c p q a l = elim (cases_lt a at) [ inl u ↦ p a u | inr u ↦ q a u l ]

-- what is below a listed cell is below the next
pub next-passed : (ls : List (ℕ × ℕ)) (ks : List ℕ) (now i : ℕ) → IsRising (keys ls)
    → ((a : ℕ) → a < now → get_or ks a 0 < (get_or ls i (0, 0)).0)
    → (a : ℕ) → a < now → i + 1 < length ls → get_or ks a 0 < (get_or ls (i + 1) (0, 0)).0
next-passed ls ks now i r p a l m =
    omega (
      arith,
      p a l,
      r i (i + 1) (omega arith) (omega (arith, m, length-map ls (λ s. s.0))),
      get_or-map (λ s. s.0) ls i (0, 0) 0 (omega arith),
      get_or-map (λ s. s.0) ls (i + 1) (0, 0) 0 m,
    )

-- what is no further than a listed cell is below the next
pub next-beyond : (ls : List (ℕ × ℕ)) (ks : List ℕ) (now i : ℕ) → IsRising (keys ls)
    → ((a : ℕ) → a < now → get_or ks a 0 ≤ (get_or ls i (0, 0)).0)
    → (a : ℕ) → a < now → i + 1 < length ls → get_or ks a 0 < (get_or ls (i + 1) (0, 0)).0
next-beyond ls ks now i r p a l m =
    omega (
      arith,
      p a l,
      r i (i + 1) (omega arith) (omega (arith, m, length-map ls (λ s. s.0))),
      get_or-map (λ s. s.0) ls i (0, 0) 0 (omega arith),
      get_or-map (λ s. s.0) ls (i + 1) (0, 0) 0 m,
    )

-- what is below one place or is there is no further than the cell there
pub up-to : (ks : List ℕ) (at c : ℕ) → ((a : ℕ) → a < at → get_or ks a 0 < c) → get_or ks at 0 ≡ c
    → (a : ℕ) → a < at + 1 → get_or ks a 0 ≤ c
up-to ks at c p e a l = elim (cases_lt a at) [
  | inl u ↦ omega (arith, p a u)
  | inr u ↦ let same : at ≡ a = omega arith in subst (λ k. get_or ks k 0 ≤ c) same (omega (arith, e))
]

-- one more piece
pub pieces-next : {X : Type 0} (f : X → List ℕ) (xs : List X) (i : ℕ) (d : X) → i < length xs
    → flat_map f (take (i + 1) xs) ≡ flat_map f (take i xs) ++ f (get_or xs i d)
pieces-next f xs i d l =
    ap (flat_map f) (take_more xs i d l) ∙ flat_map-append f (take i xs) (get_or xs i d ∷ [])
    ∙ ap (λ e. flat_map f (take i xs) ++ e) (append-nil (f (get_or xs i d)))

-- a cell that does not stand at its place stands nowhere
pub absent-from : (ks : List ℕ) (at c : ℕ) → IsRising ks → ((a : ℕ) → a < at → get_or ks a 0 < c)
    → (at < length ks → c ≤ get_or ks at 0) → (at < length ks → get_or ks at 0 ≢ c)
    → has c ks ≡ false
absent-from ks at c r below here other = has-absent c ks (λ a l e. elim (cases_lt a at) [
  | inl u ↦ absurd (omega (arith, below a u, e))
  | inr u ↦ elim (cases_lt at a) [
    | inl w ↦ absurd (omega (arith, here (omega arith), r at a w l, e))
    | inr w ↦ let same : a ≡ at = omega arith in absurd (other (omega arith) (ap (λ k. get_or ks k 0) (sym same) ∙ e))
  ]
])
