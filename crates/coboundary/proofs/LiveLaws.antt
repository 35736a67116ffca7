-- The cells of a sheaf that have a stalk may be the live cells of a block complex.
use Rattle.std.proofs.Common.{All, ◌≡◌, ◌≢◌, ◌||◌, eqb, ℕ, zero, suc, ◌+◌, ◌<◌, ◌≤◌, Bool, true, false, cond, not, List}
use Rattle.std.proofs.Common.{[], ◌∷◌, length, map, filter, get_or, slice_index, sum, refl, sym, ap, ◌∙◌, subst, arith}
use Rattle.std.specs.Prelude.{◌==◌}
use Rattle.std.proofs.lemmas.List.Sums.{sum_by-cons}
use Rattle.std.proofs.lemmas.Bool.{eqb-false, eq-eqb, ne_eqb, not-true}
use Rattle.std.proofs.lemmas.List.Elements.{All-map, All-filter, filter_passes, All-get_or}
use Rattle.cell_complex.specs.declared.face.Face.{Face}
use Rattle.cell_complex.specs.Invariants.{AreCells}
use Rattle.cell_complex.specs.Invariants.{JoinsCells}
use Rattle.dense_blocks.specs.declared.block.Block.{Block}
use Rattle.cochain_vec.specs.declared.cell.Cell.{Cell}
use Rattle.cochain_vec.specs.Stalkless as stalkless
use Rattle.cochain_vec.proofs.StalklessLaws.{has_coordinates, rising-filter}
use Rattle.sheaf_data.specs.Drafts.{AreStalks}
use Rattle.sheaf_data.specs.Arrows.{numbered_cells}
use Rattle.coboundary.specs.Start.{with_stalks}
use Rattle.rising_lists.specs.Rising.{IsRising, has}
use Rattle.block_complexes.specs.BlockComplexes.{cells, live_size, of_cell, degree_of, size_of}
use Rattle.block_sparse.specs.StoredBlocks.{FitsPair, AreLive}
use Rattle.coboundary.proofs.ClosedLaws.{all-numbered_cells}

-- numbered_cells cells rise
pub numbered_cells-rising : (n : ℕ) (dims stalks : List ℕ) → length stalks ≡ length dims
    → stalkless.HasRisingCells (numbered_cells n dims stalks)
numbered_cells-rising n [] stalks e = tt
numbered_cells-rising n (d ∷ dims) [] e = tt
numbered_cells-rising n (d ∷ dims) (size ∷ stalks) e = (
  all-numbered_cells (λ (c : Cell). n < c.cell) (n + 1) dims stalks (omega arith) (λ i l. omega arith),
  numbered_cells-rising (n + 1) dims stalks (omega arith),
)

-- rising cells, by their places
numbers-rising : (cs : List Cell) → stalkless.HasRisingCells cs → IsRising (map (λ (c : Cell). c.cell) cs)
numbers-rising [] h i j l m = absurd (omega arith)
numbers-rising (c ∷ cs) h i zero l m = absurd (omega arith)
numbers-rising (c ∷ cs) h zero (suc j) l m =
    All-get_or (λ n. c.cell < n) (map (λ (c : Cell). c.cell) cs) j 0 (omega arith)
    (All-map (λ n. c.cell < n) (λ (c : Cell). c.cell) cs h.0)
numbers-rising (c ∷ cs) h (suc i) (suc j) l m = numbers-rising cs h.1 i j (omega arith) (omega arith)

row : Cell → ℕ × ℕ × ℕ
row c = (c.cell, c.degree, c.size)

numbers-of-rows : (cs : List Cell) → cells (map row cs) ≡ map (λ (c : Cell). c.cell) cs
unfolding row
numbers-of-rows [] = refl
numbers-of-rows (c ∷ cs) = ap (λ t. c.cell ∷ t) (numbers-of-rows cs)

total-with_stalks : (n : ℕ) (dims stalks : List ℕ) → length stalks ≡ length dims
    → live_size (with_stalks (numbered_cells n dims stalks)) ≤ sum stalks
total-with_stalks n [] stalks e = omega arith
total-with_stalks n (d ∷ dims) [] e = absurd (omega arith)
total-with_stalks n (d ∷ dims) (size ∷ stalks) e =
    go (not (size == 0)) (total-with_stalks (n + 1) dims stalks (omega arith)) (sum_by-cons (λ (x : ℕ). x) size stalks)
  where
    row : Cell → ℕ × ℕ × ℕ
    row c = (c.cell, c.degree, c.size)

    kept : List Cell
    kept = filter has_coordinates (numbered_cells (n + 1) dims stalks)

    go : (b : Bool) → live_size (map row kept) ≤ sum stalks → sum (size ∷ stalks) ≡ size + sum stalks
        → live_size (map row (cond b (record { cell = n; degree = d; size = size } ∷ kept) kept)) ≤ sum (size ∷ stalks)
    go true low more = omega arith
    go false low more = omega arith

pub with_stalks-rising : (dims stalks : List ℕ) → length stalks ≡ length dims
    → IsRising (cells (with_stalks (numbered_cells 0 dims stalks)))
unfolding row
with_stalks-rising dims stalks same =
    let all : List Cell = numbered_cells 0 dims stalks in
    let kept : List Cell = filter has_coordinates all in
    subst IsRising (sym (numbers-of-rows kept))
    (numbers-rising kept (rising-filter has_coordinates all (numbered_cells-rising 0 dims stalks same)))

pub with_stalks-sizes : (dims stalks : List ℕ)
    → All (λ (l : ℕ × ℕ × ℕ). 1 ≤ l.2) (with_stalks (numbered_cells 0 dims stalks))
unfolding row
with_stalks-sizes dims stalks =
    let all : List Cell = numbered_cells 0 dims stalks in
    let kept : List Cell = filter has_coordinates all in
    All-map (λ (l : ℕ × ℕ × ℕ). 1 ≤ l.2) row kept
    (λ i d l. let c = get_or kept i d in
    omega (arith, eqb-false c.size 0 (not-true (c.size == 0) (filter_passes has_coordinates all i d l))))

pub live_cells-live : (dims stalks : List ℕ) → AreCells dims → AreStalks dims stalks
    → AreLive (with_stalks (numbered_cells 0 dims stalks))
unfolding row
live_cells-live dims stalks are_cells are_stalks =
    let all : List Cell = numbered_cells 0 dims stalks in
    let kept : List Cell = filter has_coordinates all in
    record {
      rising = with_stalks-rising dims stalks are_stalks.one_each;
      degrees = All-map (λ (l : ℕ × ℕ × ℕ). l.1 ≤ 15) row kept
          (All-filter has_coordinates (λ (c : Cell). c.degree ≤ 15) all
          (all-numbered_cells (λ (c : Cell). c.degree ≤ 15) 0 dims stalks are_stalks.one_each
          (λ i l. are_cells.low i 0 l)));
      sizes = with_stalks-sizes dims stalks;
      total = omega (arith, total-with_stalks 0 dims stalks are_stalks.one_each, are_stalks.few);
    }

-- a live cell has the numbers of its sheaf
of_cell-numbered_cells : (number : ℕ × ℕ × ℕ → ℕ) (n i : ℕ) (dims stalks : List ℕ) → length stalks ≡ length dims → i
    < length dims → slice_index stalks i ≢ 0
    → of_cell number (with_stalks (numbered_cells n dims stalks)) (n + i)
    ≡ number (n + i, slice_index dims i, slice_index stalks i)
of_cell-numbered_cells number n i [] stalks e l nonzero = absurd (omega arith)
of_cell-numbered_cells number n i (d ∷ dims) [] e l nonzero = absurd (omega arith)
of_cell-numbered_cells number n zero (d ∷ dims) (size ∷ stalks) e l nonzero =
    ap (λ b. of_cell number (map row (cond (not b) (here ∷ kept) kept)) (n + 0)) (ne_eqb size 0 nonzero)
    ∙ ap (λ b. cond b (number (n, d, size)) (of_cell number (map row kept) (n + 0))) (eq-eqb n (n + 0) start)
    ∙ ap (λ m. number (m, d, size)) start
  where
    row : Cell → ℕ × ℕ × ℕ
    row c = (c.cell, c.degree, c.size)

    here : Cell
    here = record { cell = n; degree = d; size = size }

    kept : List Cell
    kept = filter has_coordinates (numbered_cells (n + 1) dims stalks)

    start : n ≡ n + 0
    start = omega arith
of_cell-numbered_cells number n (suc i) (d ∷ dims) (size ∷ stalks) e l nonzero =
    go (not (size == 0))
    ∙ ap (of_cell number (map row kept)) step
    ∙ of_cell-numbered_cells number (n + 1) i dims stalks (omega arith) (omega arith) nonzero
    ∙ ap (λ m. number (m, slice_index dims i, slice_index stalks i)) (sym step)
  where
    row : Cell → ℕ × ℕ × ℕ
    row c = (c.cell, c.degree, c.size)

    kept : List Cell
    kept = filter has_coordinates (numbered_cells (n + 1) dims stalks)

    step : n + suc i ≡ (n + 1) + i
    step = omega arith

    go : (b : Bool) → of_cell number (map row (cond b (record { cell = n; degree = d; size = size } ∷ kept) kept))
        (n + suc i) ≡ of_cell number (map row kept) (n + suc i)
    go true = ap (λ b. cond b (number (n, d, size)) (of_cell number (map row kept) (n + suc i)))
        (ne_eqb n (n + suc i) (λ e. omega arith))
    go false = refl

-- a cell that has a number other than 0 is live
has-of_cell : (number : ℕ × ℕ × ℕ → ℕ) (live : List (ℕ × ℕ × ℕ)) (c : ℕ) → of_cell number live c ≢ 0
    → has c (cells live) ≡ true
has-of_cell number [] c h = absurd (h refl)
has-of_cell number (l ∷ ls) c h = go (eqb l.0 c) h (has-of_cell number ls c)
  where
    go : (b : Bool) → cond b (number l) (of_cell number ls c) ≢ 0 → (of_cell number ls c ≢ 0 → has c (cells ls) ≡ true)
        → (b || has c (cells ls)) ≡ true
    go true h later = refl
    go false h later = later h

module _ (dims stalks : List ℕ) (same : length stalks ≡ length dims) where
  abbrev live : List (ℕ × ℕ × ℕ)
  live = with_stalks (numbered_cells 0 dims stalks)

  pub size-live : (i : ℕ) → i < length dims → slice_index stalks i ≢ 0 → size_of live i ≡ slice_index stalks i
  size-live i l nonzero =
      let start : i ≡ 0 + i = omega arith in
      ap (size_of live) start ∙ of_cell-numbered_cells (λ (l : ℕ × ℕ × ℕ). l.2) 0 i dims stalks same l nonzero

  pub degree-live : (i : ℕ) → i < length dims → slice_index stalks i ≢ 0 → degree_of live i ≡ slice_index dims i
  degree-live i l nonzero =
      let start : i ≡ 0 + i = omega arith in
      ap (degree_of live) start ∙ of_cell-numbered_cells (λ (l : ℕ × ℕ × ℕ). l.1) 0 i dims stalks same l nonzero

  pub has-live : (i : ℕ) → i < length dims → slice_index stalks i ≢ 0 → has i (cells live) ≡ true
  has-live i l nonzero = has-of_cell (λ (l : ℕ × ℕ × ℕ). l.2) live i (λ e. nonzero (sym (size-live i l nonzero) ∙ e))

  -- the block of a face between cells with stalks fits
  pub fits-live : (f : Face) (b : Block) → JoinsCells dims f → b.rows ≡ slice_index stalks f.t
      → b.cols ≡ slice_index stalks f.s → b.rows ≢ 0 → b.cols ≢ 0 → FitsPair live f.s f.t b
  fits-live f b fit rows cols some_rows some_cols =
      let s_stalk : slice_index stalks f.s ≢ 0 = λ e. some_cols (cols ∙ e) in
      let t_stalk : slice_index stalks f.t ≢ 0 = λ e. some_rows (rows ∙ e) in
      record {
        between = record {
          from = has-live f.s fit.s_is_cell s_stalk;
          to = has-live f.t fit.t_is_cell t_stalk;
          degrees = degree-live f.t fit.t_is_cell t_stalk ∙ fit.one_up
              ∙ ap (λ d. d + 1) (sym (degree-live f.s fit.s_is_cell s_stalk));
        };
        rows = rows ∙ sym (size-live f.t fit.t_is_cell t_stalk);
        cols = cols ∙ sym (size-live f.s fit.s_is_cell s_stalk);
      }
