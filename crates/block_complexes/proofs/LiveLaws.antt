-- Live cells by place.
use Rattle.std.proofs.Common.{◌≡◌, ◌≢◌, ℕ, zero, suc, ◌<◌, ◌≤◌, ◌+◌, Bool, true, false, cond, ◌||◌, refl, sym, ap, ◌∙◌}
use Rattle.std.proofs.Common.{arith, inl, inr, List, [], ◌∷◌, length, get_or, take, eqb, add-one}
use Rattle.std.proofs.lemmas.Bool.{eq-eqb, ne_eqb, cases_lt}
use Rattle.std.proofs.lemmas.List.{get_or-map, length-map}
use Rattle.rising_lists.specs.Rising.{IsRising, has}
use Rattle.rising_lists.proofs.Keyed.{rising_tail, rising_head, has-absent}
use Rattle.block_complexes.specs.BlockComplexes.{cells, of_cell, live_size}

pub cell-at : (live : List (ℕ × ℕ × ℕ)) (i : ℕ) → i < length live → get_or (cells live) i 0
    ≡ (get_or live i (0, 0, 0)).0
cell-at live i l = get_or-map (λ l. l.0) live i (0, 0, 0) 0 l

pub length-cells : (live : List (ℕ × ℕ × ℕ)) → length (cells live) ≡ length live
length-cells live = length-map live (λ l. l.0)

-- what the live cell at a place has
pub of_cell-at : (number : ℕ × ℕ × ℕ → ℕ) (live : List (ℕ × ℕ × ℕ)) (i c : ℕ) → IsRising (cells live) → i < length live
    → (get_or live i (0, 0, 0)).0 ≡ c
    → of_cell number live c ≡ number (get_or live i (0, 0, 0))
of_cell-at number [] i c r l e = absurd (omega arith)
of_cell-at number (x ∷ xs) zero c r l e = rw (eq-eqb x.0 c e) refl
of_cell-at number (x ∷ xs) (suc i) c r l e =
    let apart : x.0 ≢ c = λ f.
    absurd (omega (
      arith,
      rising_head x.0 (cells xs) r i (omega (arith, length-cells xs)),
      cell-at xs i (omega arith),
      e,
      f,
    )) in
    rw (ne_eqb x.0 c apart) (of_cell-at number xs i c (rising_tail x.0 (cells xs) r) (omega arith) e)

-- a cell that is not live has nothing
pub of_cell-absent : (number : ℕ × ℕ × ℕ → ℕ) (live : List (ℕ × ℕ × ℕ)) (c : ℕ) → has c (cells live) ≡ false
    → of_cell number live c ≡ 0
of_cell-absent number [] c h = refl
of_cell-absent number (x ∷ xs) c h = go (eqb x.0 c) (λ m. of_cell-absent number xs c m) h
  where
    go : (b : Bool) → (has c (cells xs) ≡ false → of_cell number xs c ≡ 0) → (b || has c (cells xs)) ≡ false
        → cond b (number x) (of_cell number xs c) ≡ 0
    go true f m = cc
    go false f m = f m

pub absent-at : (live : List (ℕ × ℕ × ℕ)) (c at : ℕ) → IsRising (cells live)
    → ((i : ℕ) → i < at → get_or (cells live) i 0 < c)
    → ((i : ℕ) → at ≤ i → i < length live → c ≤ get_or (cells live) i 0)
    → (at < length live → (get_or live at (0, 0, 0)).0 ≢ c) → has c (cells live) ≡ false
absent-at live c at r below from other = has-absent c (cells live) (λ i l e. elim (cases_lt i at) [
  | inl u ↦ absurd (omega (arith, below i u, e))
  | inr u ↦ elim (cases_lt at i) [
    | inl v ↦
        let m : i < length live = omega (arith, l, length-cells live) in
        absurd (omega (arith, from at (omega arith) (omega arith), r at i v l, e))
    | inr v ↦
        let same : i ≡ at = omega arith in
        let m : at < length live = omega (arith, l, length-cells live, same) in
        absurd (other m (sym (cell-at live at m) ∙ ap (λ k. get_or (cells live) k 0) (sym same) ∙ e))
  ]
])

-- how many coordinates the first cells have
pub total-next : (live : List (ℕ × ℕ × ℕ)) (i : ℕ) → i < length live → live_size (take (i + 1) live)
    ≡ live_size (take i live) + (get_or live i (0, 0, 0)).2
total-next live i l = ap (λ k. live_size (take k live)) (add-one i) ∙ next live i l
  where
    next : (live : List (ℕ × ℕ × ℕ)) (i : ℕ) → i < length live → live_size (take (suc i) live) ≡ live_size (take i live)
        + (get_or live i (0, 0, 0)).2
    next [] i l = absurd (omega arith)
    next (x ∷ xs) zero l = omega arith
    next (x ∷ xs) (suc i) l = omega (arith, next xs i (omega arith))

pub total-take : (live : List (ℕ × ℕ × ℕ)) (i : ℕ) → live_size (take i live) ≤ live_size live
total-take [] zero = omega arith
total-take [] (suc i) = omega arith
total-take (x ∷ xs) zero = omega arith
total-take (x ∷ xs) (suc i) = omega (arith, total-take xs i)
