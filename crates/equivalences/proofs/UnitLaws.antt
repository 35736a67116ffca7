-- Rows of the identity at each cell, one cell after another.
use Rattle.std.specs.Option.{unwrap_or}
use Rattle.std.specs.List.{list_all}
use Rattle.std.proofs.Common.{◌≡◌, ℕ, zero, suc, ◌+◌, ◌<◌, ◌≤◌, true, false, cond, eqb, List, [], ◌∷◌, ◌++◌}
use Rattle.std.proofs.Common.{length, take, get_or, set, refl, sym, ap, ap₂, ◌∙◌, subst, arith, inl, inr}
use Rattle.std.proofs.lemmas.Bool.{cases_eq, eq-eqb, ne_eqb, eqb-true, and_parts}
use Rattle.std.proofs.lemmas.List.{get_or_at, get_or_append_left, take_all}
use Rattle.dense_blocks.specs.MatrixFacts.{identity}
use Rattle.rising_lists.specs.Rising.{IsRising, has}
use Rattle.rising_lists.proofs.Keyed.{place_of, look-at}
use Rattle.cochain_vec.specs.declared.cell.Cell.{Cell}
use Rattle.cochain_vec.specs.Complexes.{total_size}
use Rattle.block_complexes.specs.BlockComplexes.{cells, degree_of}
use Rattle.block_complexes.specs.Cochains.{of_degree, cell_of}
use Rattle.block_complexes.proofs.LiveLaws.{cell-at, length-cells, of_cell-at}
use Rattle.block_complexes.proofs.DegreeLaws.{start-next, start-within}
use Rattle.block_sparse.specs.StoredBlocks.{AreLive}
use Rattle.equivalence_laws.specs.Updates.{cell_rows}
use Rattle.equivalence_laws.proofs.StartLaws.{rows-place}
use Rattle.equivalences.specs.Rows.{cell_rows_of, unit_rows}

-- the rows at the cell at a place
abbrev pub units_at : List (ℕ × ℕ × ℕ) → ℕ → List (List ℕ)
units_at live i =
    let l : ℕ × ℕ × ℕ = get_or live i (0, 0, 0) in
    unit_rows l.2 (total_size (of_degree l.1 (take i live))) (total_size (of_degree l.1 live))

-- where rows stand for each live cell, those at a cell are its rows of the identity
pub units-found : (live : List (ℕ × ℕ × ℕ)) (rows : List (List (List ℕ))) → IsRising (cells live)
    → length rows ≡ length live → ((i : ℕ) → i < length live → get_or rows i [] ≡ units_at live i)
    → (c : ℕ) → has c (cells live) ≡ true
    → cell_rows_of (record { cells = cells live; values = rows }) c
    ≡ cell_rows (of_degree (degree_of live c) live) (identity (total_size (of_degree (degree_of live c) live))) c
units-found live rows r size is c h =
    let p = place_of (cells live) c h in
    let inside : p.at < length live = omega (arith, p.inside, length-cells live) in
    let cell : (get_or live p.at (0, 0, 0)).0 ≡ c = sym (cell-at live p.at inside) ∙ p.is in
    let k : ℕ = (get_or live p.at (0, 0, 0)).1 in
    let degree : degree_of live c ≡ k = of_cell-at (λ l. l.1) live p.at c r inside cell in
    ap (λ c. cell_rows_of (record { cells = cells live; values = rows }) c) (sym p.is)
    ∙ ap (λ x. unwrap_or x []) (look-at (cells live) rows (size ∙ sym (length-cells live)) r p.at [] p.inside)
    ∙ is p.at inside
    ∙ sym (rows-place k live (identity (total_size (of_degree k live))) p.at r inside refl)
    ∙ ap₂ (λ k c. cell_rows (of_degree k live) (identity (total_size (of_degree k live))) c) (sym degree) cell

-- one cell more
pub starts-next : (live : List (ℕ × ℕ × ℕ)) (starts : List ℕ) (i : ℕ) → i < length live → length starts ≡ 16
    → (get_or live i (0, 0, 0)).1 < 16
    → ((k : ℕ) → k < 16 → get_or starts k 0 ≡ total_size (of_degree k (take i live)))
    → (k : ℕ) → k < 16
    → get_or (set starts (get_or live i (0, 0, 0)).1 (get_or starts (get_or live i (0, 0, 0)).1 0
    + (get_or live i (0, 0, 0)).2)) k 0 ≡ total_size (of_degree k (take (i + 1) live))
starts-next live starts i inside size below are k l = elim (cases_eq (get_or live i (0, 0, 0)).1 k) [
  | inl e ↦
      subst (λ k. get_or (set starts x.1 (get_or starts x.1 0 + x.2)) k 0 ≡ total_size (of_degree k (take (i + 1) live)))
      e
      (get_or-set-here starts x.1 (get_or starts x.1 0 + x.2) (omega (arith, size, below))
      ∙ ap (λ m. m + x.2) (are x.1 below)
      ∙ ap (λ m. total_size (of_degree x.1 (take i live)) + m) (sym (one x.1 (eq-eqb x.1 x.1 refl)))
      ∙ sym (start-next x.1 live i (0, 0, 0) inside))
  | inr n ↦
      get_or-set-other starts x.1 k (get_or starts x.1 0 + x.2) n ∙ are k l
      ∙ sym (start-next k live i (0, 0, 0) inside
      ∙ ap (λ m. total_size (of_degree k (take i live)) + m) (none k (ne_eqb x.1 k n)) ∙ plus-none (of_degree k (take i live)))
]
  where
    x : ℕ × ℕ × ℕ
    x = get_or live i (0, 0, 0)

    one : (k : ℕ) → eqb x.1 k ≡ true → total_size (of_degree k (x ∷ [])) ≡ x.2
    one k e = ap (λ b. total_size (cond b (cell_of x ∷ []) [])) e ∙ plus-nothing x.2
      where
        plus-nothing : (m : ℕ) → m + 0 ≡ m
        plus-nothing m = omega arith

    none : (k : ℕ) → eqb x.1 k ≡ false → total_size (of_degree k (x ∷ [])) ≡ 0
    none k e = ap (λ b. total_size (cond b (cell_of x ∷ []) [])) e

    plus-none : (ts : List Cell) → total_size ts + 0 ≡ total_size ts
    plus-none ts = omega arith

    get_or-set-here : (xs : List ℕ) (i a : ℕ) → i < length xs → get_or (set xs i a) i 0 ≡ a
    get_or-set-here [] i a l = absurd (omega arith)
    get_or-set-here (y ∷ xs) zero a l = refl
    get_or-set-here (y ∷ xs) (suc i) a l = get_or-set-here xs i a (omega arith)

    get_or-set-other : (xs : List ℕ) (i k a : ℕ) → (i ≡ k → ⊥) → get_or (set xs i a) k 0 ≡ get_or xs k 0
    get_or-set-other [] i k a n = refl
    get_or-set-other (y ∷ xs) zero zero a n = absurd (n refl)
    get_or-set-other (y ∷ xs) zero (suc k) a n = refl
    get_or-set-other (y ∷ xs) (suc i) zero a n = refl
    get_or-set-other (y ∷ xs) (suc i) (suc k) a n = get_or-set-other xs i k a (λ e. n (ap suc e))

-- a member more at the end
pub members-next : {A : Type 0} (f : ℕ → A) (d : A) (xs new : List A) (i : ℕ) (a : A) → length xs ≡ i
    → new ≡ xs ++ a ∷ [] → a ≡ f i → ((j : ℕ) → j < i → get_or xs j d ≡ f j)
    → (j : ℕ) → j < i + 1 → get_or new j d ≡ f j
members-next f d xs new i a size e is before j l = elim (cases_eq j i) [
  | inl here ↦
      ap (λ ys. get_or ys j d) e ∙ ap (λ j. get_or (xs ++ a ∷ []) j d) here ∙ get_or_at xs a [] d i size ∙ is
      ∙ ap f (sym here)
  | inr n ↦
      let below : j < i = omega (arith, l, n) in
      ap (λ ys. get_or ys j d) e ∙ get_or_append_left xs (a ∷ []) d j (omega (arith, below, size)) ∙ before j below
]

-- the cells of a degree have no more coordinates than a block complex
pub coordinates-fit : (live : List (ℕ × ℕ × ℕ)) (k : ℕ) → AreLive live → total_size (of_degree k live) ≤ 4096
coordinates-fit live k fits =
    let whole : total_size (of_degree k (take (length live) live)) ≡ total_size (of_degree k live) =
    ap (λ l. total_size (of_degree k l)) (take_all (length live) live (omega arith)) in
    omega (arith, whole, start-within k live (length live), fits.total)

-- the first entries
zero-entries : (xs : List ℕ) → list_all (λ a. eqb a 0) xs ≡ true → (k : ℕ) → get_or xs k 0 ≡ 0
zero-entries [] e k = refl
zero-entries (a ∷ xs) e zero = eqb-true a 0 (and_parts (eqb a 0) (list_all (λ a. eqb a 0) xs) e).0
zero-entries (a ∷ xs) e (suc k) = zero-entries xs (and_parts (eqb a 0) (list_all (λ a. eqb a 0) xs) e).1 k

abbrev sixteen_zeros : List ℕ
sixteen_zeros = 0 ∷ 0 ∷ 0 ∷ 0 ∷ 0 ∷ 0 ∷ 0 ∷ 0 ∷ 0 ∷ 0 ∷ 0 ∷ 0 ∷ 0 ∷ 0 ∷ 0 ∷ 0 ∷ []

pub no-starts : (k : ℕ) → get_or sixteen_zeros k 0 ≡ 0
no-starts k = zero-entries sixteen_zeros refl k
