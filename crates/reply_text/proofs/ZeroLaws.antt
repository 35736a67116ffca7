-- Joined matrices that are zero, whole: none of their blocks has a line.
use Rattle.std.proofs.Common.{◌≡◌, ℕ, zero, suc, ◌+◌, min, Bool, true, false, not, cond, ◌&&◌, List, [], ◌∷◌, ◌++◌}
use Rattle.std.proofs.Common.{map, take, drop, get_or, filter, eqb, refl, sym, ap, ap₂, ◌∙◌, arith, inl, inr}
use Rattle.std.specs.Prelude.{if◌then◌else◌, slice_get, None}
use Rattle.std.specs.List.{flat_map, concat, list_all}
use Rattle.std.specs.Option.{option_map_or}
use Rattle.std.specs.Fmt.{decimal}
use Rattle.std.proofs.lemmas.Bool.{eqb-true, and_parts}
use Rattle.std.proofs.lemmas.List.{get_or-map}
use Rattle.std.proofs.lemmas.List.Elements.{All-take, All-drop}
use Rattle.std.proofs.lemmas.List.Folds.{list_all-append}
use Rattle.std.proofs.lemmas.List.Sums.{AllPass-from_list_all, list_all-from_AllPass}
use Rattle.std.proofs.lemmas.Option.{slice_get_cases}
use Rattle.dense_blocks.specs.Matrices.{cut}
use Rattle.dense_blocks.specs.Blocks.{matrix_of}
use Rattle.dense_blocks.specs.declared.block.Block.{Block}
use Rattle.reply_text.specs.declared.coordinates.Coordinates.{Coordinates}
use Rattle.reply_text.specs.declared.joined.Direction.{Direction}
use Rattle.reply_text.specs.declared.joined.Direction.TheVariants.{Up, Level, Down}
use Rattle.reply_text.specs.JoinedMatrices.{JoinedMatrices, goes, entries_between, nonzero_line, block_line}
use Rattle.reply_text.specs.Parts.{is_zero, matrix_place}

-- ---- parts of zero matrices

all-take : {X : Type 0} (p : X → Bool) (n : ℕ) (xs : List X) → list_all p xs ≡ true → list_all p (take n xs) ≡ true
all-take p n xs h =
    list_all-from_AllPass p (take n xs) (All-take (λ x. p x ≡ true) n xs (AllPass-from_list_all p xs h))

all-drop : {X : Type 0} (p : X → Bool) (n : ℕ) (xs : List X) → list_all p xs ≡ true → list_all p (drop n xs) ≡ true
all-drop p n xs h =
    list_all-from_AllPass p (drop n xs) (All-drop (λ x. p x ≡ true) n xs (AllPass-from_list_all p xs h))

abbrev are_zero : List ℕ → Bool
are_zero entries = list_all (λ e. eqb e 0) entries

zero-cut : (m n : ℕ) (entries : List ℕ) → are_zero entries ≡ true → list_all are_zero (cut m n entries) ≡ true
zero-cut zero n entries h = refl
zero-cut (suc m) n entries h =
    ap₂ ◌&&◌ (all-take (λ e. eqb e 0) n entries h)
    (zero-cut m n (drop n entries) (all-drop (λ e. eqb e 0) n entries h))

zero-parts : (w col : ℕ) (A : List (List ℕ)) → list_all are_zero A ≡ true
    → list_all are_zero (map (λ r. take w (drop col r)) A) ≡ true
zero-parts w col [] h = refl
zero-parts w col (r ∷ A) h =
    let parts = and_parts (are_zero r) (list_all are_zero A) h in
    ap₂ ◌&&◌ (all-take (λ e. eqb e 0) w (drop col r) (all-drop (λ e. eqb e 0) col r parts.0))
    (zero-parts w col A parts.1)

zero-concat : (A : List (List ℕ)) → list_all are_zero A ≡ true → are_zero (concat A) ≡ true
zero-concat [] h = refl
zero-concat (r ∷ A) h =
    let parts = and_parts (are_zero r) (list_all are_zero A) h in
    list_all-append (λ e. eqb e 0) r (concat A) ∙ ap₂ ◌&&◌ parts.0 (zero-concat A parts.1)

zero-between : (b : Block) (s t : Coordinates) → is_zero b ≡ true
    → list_all (λ e. eqb e 0) (entries_between b s t) ≡ true
zero-between b s t h =
    let A = matrix_of b in
    let rows = take t.size (drop t.first A) in
    zero-concat (map (λ r. take s.size (drop s.first r)) rows) (zero-parts s.size s.first rows
    (all-take are_zero t.size (drop t.first A) (all-drop are_zero t.first A (zero-cut b.rows b.cols b.entries h))))

-- ---- lines

place-is : (d : Direction) (k l : ℕ) → goes d k l ≡ true → min k l ≡ matrix_place d k
place-is Up k l e = let is = eqb-true l (k + 1) e in omega (arith, is)
place-is Level k l e = let is = eqb-true l k e in omega (arith, is)
place-is Down k l e = let is = eqb-true (l + 1) k e in omega (arith, is)

-- from a cell where the matrix is zero, or where there is none, no block has a line
line-none : (word : List ℕ) (m : JoinedMatrices) (s t : Coordinates)
    → get_or (map is_zero m.matrices) (matrix_place m.direction s.degree) true ≡ true → block_line word m s t ≡ []
line-none word m s t h = found (goes m.direction s.degree t.degree) refl
  where
    line : Block → List (List (List ℕ))
    line b = nonzero_line word s t (entries_between b s t)

    place : ℕ
    place = matrix_place m.direction s.degree

    at-place : option_map_or line (slice_get m.matrices place) [] ≡ []
    at-place = elim (slice_get_cases m.matrices place).1 [
      | inl (b, inside, some, is) ↦
          ap (λ o. option_map_or line o []) some
          ∙ ap (λ (z : Bool). if z then [] else (word ∷ decimal s.cell ∷ decimal t.cell
          ∷ map decimal (entries_between b s t)) ∷ [])
          (zero-between b s t
          (ap is_zero (sym is) ∙ sym (get_or-map is_zero m.matrices place b true inside) ∙ h))
      | inr (past, none) ↦ ap (λ o. option_map_or line o []) none
    ]

    found : (g : Bool) → goes m.direction s.degree t.degree ≡ g
        → option_map_or line (if g then slice_get m.matrices (min s.degree t.degree) else None) [] ≡ []
    found false e = refl
    found true e =
        ap (λ k. option_map_or line (slice_get m.matrices k) []) (place-is m.direction s.degree t.degree e) ∙ at-place

lines-none : (word : List ℕ) (m : JoinedMatrices) (s : Coordinates) (to : List Coordinates)
    → get_or (map is_zero m.matrices) (matrix_place m.direction s.degree) true ≡ true
    → flat_map (λ t. block_line word m s t) to ≡ []
lines-none word m s [] h = refl
lines-none word m s (t ∷ to) h = ap₂ ◌++◌ (line-none word m s t h) (lines-none word m s to h)

-- those cells may as well be left out
pub sources-lines : (word : List ℕ) (m : JoinedMatrices) (to from : List Coordinates)
    → flat_map (λ s. flat_map (λ t. block_line word m s t) to)
    (filter (λ s. not (get_or (map is_zero m.matrices) (matrix_place m.direction s.degree) true)) from)
    ≡ flat_map (λ s. flat_map (λ t. block_line word m s t) to) from
sources-lines word m to [] = refl
sources-lines word m to (s ∷ from) = pick (is_left_out s) refl (sources-lines word m to from)
  where
    is_left_out : Coordinates → Bool
    is_left_out q = get_or (map is_zero m.matrices) (matrix_place m.direction q.degree) true

    lines : Coordinates → List (List (List ℕ))
    lines q = flat_map (λ t. block_line word m q t) to

    kept : List Coordinates
    kept = filter (λ q. not (is_left_out q)) from

    pick : (z : Bool) → is_left_out s ≡ z → flat_map lines kept ≡ flat_map lines from
        → flat_map lines (cond (not z) (s ∷ kept) kept) ≡ lines s ++ flat_map lines from
    pick false e rest = ap (λ ls. lines s ++ ls) rest
    pick true e rest = rest ∙ ap (λ first. first ++ flat_map lines from) (sym (lines-none word m s to e))
