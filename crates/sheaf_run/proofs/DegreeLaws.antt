-- The live cells of a start complex have degrees below the number of degrees, and its vertices degree 0.
use Rattle.std.proofs.Common.{◌≡◌, ℕ, zero, suc, ◌+◌, ◌<◌, ◌≤◌, ◌||◌, Bool, true, false, cond, ◌==◌, eqb, List, [], ◌∷◌}
use Rattle.std.proofs.Common.{All, refl, ap, ◌∙◌, subst, arith}
use Rattle.std.specs.Prelude.{max, not, map, filter, slice_index}
use Rattle.std.proofs.lemmas.Bool.{eq-eqb, ne_eqb}
use Rattle.std.proofs.Math.Nat.{le-max_left, le-max_right, max-le}
use Rattle.std.proofs.lemmas.List.Elements.{All-weaker, All-cons, All-head, All-tail}
use Rattle.cochain_vec.specs.declared.cell.Cell.{Cell}
use Rattle.rising_lists.specs.Rising.{has}
use Rattle.block_complexes.specs.BlockComplexes.{cells, degree_of}
use Rattle.sheaf_data.specs.Arrows.{numbered_cells}
use Rattle.sheaf_data.specs.Betti.{degree_count}
use Rattle.sheaf_text.specs.Answers.{IsVertex}
use Rattle.coboundary.specs.Start.{with_stalks}

abbrev pub HasDegreeBelow : ℕ → ℕ × ℕ × ℕ → Type 0
HasDegreeBelow n l = l.1 < n

-- one cell more
below-more : (m n : ℕ) (c : Cell) (cs : List Cell) (b : Bool) → c.degree < m
    → All (HasDegreeBelow n) (map (λ (c : Cell). (c.cell, c.degree, c.size)) cs)
    → All (HasDegreeBelow (max m n)) (map (λ (c : Cell). (c.cell, c.degree, c.size)) (cond (not b) (c ∷ cs) cs))
below-more m n c cs b l h = go b weaker
  where
    weaker : All (HasDegreeBelow (max m n)) (map (λ (c : Cell). (c.cell, c.degree, c.size)) cs)
    weaker = All-weaker (HasDegreeBelow n) (HasDegreeBelow (max m n)) (λ x k. omega (arith, k, le-max_right m n))
        (map (λ (c : Cell). (c.cell, c.degree, c.size)) cs) h

    go : (b : Bool) → All (HasDegreeBelow (max m n)) (map (λ (c : Cell). (c.cell, c.degree, c.size)) cs)
        → All (HasDegreeBelow (max m n)) (map (λ (c : Cell). (c.cell, c.degree, c.size)) (cond (not b) (c ∷ cs) cs))
    go true k = k
    go false k = All-cons (HasDegreeBelow (max m n)) (c.cell, c.degree, c.size)
        (map (λ (c : Cell). (c.cell, c.degree, c.size)) cs) (omega (arith, l, le-max_left m n)) k

pub degrees-below : (n : ℕ) (dims stalks : List ℕ)
    → All (HasDegreeBelow (degree_count dims)) (with_stalks (numbered_cells n dims stalks))
degrees-below n [] stalks = λ k x l. absurd (omega (arith, l))
degrees-below n (d ∷ dims) [] = λ k x l. absurd (omega (arith, l))
degrees-below n (d ∷ dims) (s ∷ stalks) =
    below-more (d + 1) (degree_count dims) (record { cell = n; degree = d; size = s })
    (filter (λ (c : Cell). not (c.size == 0)) (numbered_cells (n + 1) dims stalks)) (s == 0) (omega arith)
    (degrees-below (n + 1) dims stalks)

-- dimensions are at most 15, so there are at most 16 degrees
pub degrees-few : (dims : List ℕ) → All (λ d. d ≤ 15) dims → degree_count dims ≤ 16
degrees-few [] h = omega arith
degrees-few (d ∷ dims) h =
    max-le (omega (arith, All-head (λ d. d ≤ 15) d dims h)) (degrees-few dims (All-tail (λ d. d ≤ 15) d dims h))

-- ---- the degree of a vertex

abbrev here : ℕ → ℕ → ℕ → Cell
here n d size = record { cell = n; degree = d; size = size }

abbrev rows : List Cell → List (ℕ × ℕ × ℕ)
rows cs = map (λ (c : Cell). (c.cell, c.degree, c.size)) cs

-- no live cell comes before the first number
none-below : (n k : ℕ) (dims stalks : List ℕ) → k < n
    → has k (cells (with_stalks (numbered_cells n dims stalks))) ≡ false
none-below n k [] stalks l = refl
none-below n k (d ∷ dims) [] l = refl
none-below n k (d ∷ dims) (size ∷ stalks) l =
    go (not (size == 0)) (none-below (n + 1) k dims stalks (omega (arith, l)))
  where
    kept : List Cell
    kept = filter (λ (c : Cell). not (c.size == 0)) (numbered_cells (n + 1) dims stalks)

    go : (b : Bool) → has k (cells (rows kept)) ≡ false
        → has k (cells (rows (cond b (here n d size ∷ kept) kept))) ≡ false
    go true r = ap (λ e. e || has k (cells (rows kept))) (ne_eqb n k (λ e. omega (arith, e, l))) ∙ r
    go false r = r

-- a live cell has the dimension of its sheaf
degree-of-live : (n i : ℕ) (dims stalks : List ℕ)
    → has (n + i) (cells (with_stalks (numbered_cells n dims stalks))) ≡ true
    → degree_of (with_stalks (numbered_cells n dims stalks)) (n + i) ≡ slice_index dims i
degree-of-live n i [] stalks h = cc
degree-of-live n i (d ∷ dims) [] h = cc
degree-of-live n zero (d ∷ dims) (size ∷ stalks) h = go (not (size == 0)) h
  where
    kept : List Cell
    kept = filter (λ (c : Cell). not (c.size == 0)) (numbered_cells (n + 1) dims stalks)

    go : (b : Bool) → has (n + 0) (cells (rows (cond b (here n d size ∷ kept) kept))) ≡ true
        → degree_of (rows (cond b (here n d size ∷ kept) kept)) (n + 0) ≡ d
    go true h = ap (λ e. cond e d (degree_of (rows kept) (n + 0))) (eq-eqb n (n + 0) (omega arith))
    go false h =
        let none : has (n + 0) (cells (rows kept)) ≡ false = none-below (n + 1) (n + 0) dims stalks (omega arith) in
        cc
degree-of-live n (suc i) (d ∷ dims) (size ∷ stalks) h =
    go (not (size == 0))
    (subst (λ m. has m (cells (rows kept)) ≡ true → degree_of (rows kept) m ≡ slice_index dims i) step
    (degree-of-live (n + 1) i dims stalks)) h
  where
    kept : List Cell
    kept = filter (λ (c : Cell). not (c.size == 0)) (numbered_cells (n + 1) dims stalks)

    step : (n + 1) + i ≡ n + suc i
    step = omega arith

    other : eqb n (n + suc i) ≡ false
    other = ne_eqb n (n + suc i) (λ e. omega (arith, e))

    go : (b : Bool)
        → (has (n + suc i) (cells (rows kept)) ≡ true → degree_of (rows kept) (n + suc i) ≡ slice_index dims i)
        → has (n + suc i) (cells (rows (cond b (here n d size ∷ kept) kept))) ≡ true
        → degree_of (rows (cond b (here n d size ∷ kept) kept)) (n + suc i) ≡ slice_index dims i
    go true later h = ap (λ e. cond e d (degree_of (rows kept) (n + suc i))) other
        ∙ later (subst (λ e. (e || has (n + suc i) (cells (rows kept))) ≡ true) other h)
    go false later h = later h

-- a vertex that is live has degree 0
pub vertex-live : (dims stalks : List ℕ) (s : ℕ) → IsVertex dims s
    → has s (cells (with_stalks (numbered_cells 0 dims stalks))) ≡ true
    → degree_of (with_stalks (numbered_cells 0 dims stalks)) s ≡ 0
vertex-live dims stalks s vertex h =
    let start : 0 + s ≡ s = omega arith in
    let live = with_stalks (numbered_cells 0 dims stalks) in
    subst (λ i. has i (cells live) ≡ true → degree_of live i ≡ slice_index dims s) start
    (degree-of-live 0 s dims stalks) h ∙ vertex.dimension
