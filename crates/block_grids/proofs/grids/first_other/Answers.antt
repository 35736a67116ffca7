use Rattle.std.proofs.Common.{◌<◌, ◌+◌, ℕ, sym, subst, length, get_or, arith}
use Rattle.dense_blocks.specs.Blocks.{matrix_of}
use Rattle.rising_lists.specs.Rising.{line_of}
use Rattle.block_grids.specs.Joined.{AreShaped, IsSamePart}
use Rattle.block_sparse.proofs.Windows.{width-next, width-within}
use Rattle.block_grids.proofs.JoinLaws.{rows-shaped}
use Rattle.block_grids.proofs.SingleLaws.{listed-sizes}
use Rattle.block_grids.proofs.OtherLaws.{IsEarliest, SameAt, earliest-less, earliest-kept, no-other, first-other}
use Rattle.block_grids.proofs.grids.first_other.Goals as goal
use Rattle.block_grids.proofs.grids.first_other.Goals.{then-same-end, else-same-end}

pub line-requires : goal.line-requires
line-requires c = (c.requires.below_sized c.loop-j.j (0, 0) (omega arith)).0

pub count_same-same-requires-clause-shaped : goal.count_same-same-requires-clause-shaped
count_same-same-requires-clause-shaped c =
    let below = c.args.below.now in
    let left = c.args.left.now in
    let j : ℕ = c.loop-j.j in
    let inside : j < length below = omega arith in
    subst (λ l. AreShaped l (get_or below j (0, 0)).1 left) (sym c.line.ensures)
    (rows-shaped c.args.b.now left below c.live-cells.ensures.sound c.requires.left_sized c.requires.below_sized j
    (0, 0) inside)

pub count_same-same-requires-clause-sizes : goal.count_same-same-requires-clause-sizes
count_same-same-requires-clause-sizes c =
    listed-sizes c.args.b.now.live c.args.left.now c.live-cells.ensures.sound.live_cells.sizes c.requires.left_sized

pub count_same-same-requires-clause-rows : goal.count_same-same-requires-clause-rows
count_same-same-requires-clause-rows c =
    let below = c.args.below.now in
    let j : ℕ = c.loop-j.j in
    let inside : j < length below = omega arith in
    omega (arith, c.loop-j.invariant.row, width-within below j inside, c.requires.rows)

pub overflow_add-row : goal.overflow_add-row
overflow_add-row c =
    let below = c.args.below.now in
    let j : ℕ = c.loop-j.j in
    let inside : j < length below = omega arith in
    omega (arith, c.loop-j.invariant.row, width-within below j inside, c.requires.rows, c.args.joined.now.rows_fit)

pub loop-j-preserved : goal.loop-j-preserved
loop-j-preserved c =
    let v = c.args.b.now in
    let below = c.args.below.now in
    let left = c.args.left.now in
    let A = matrix_of c.args.joined.now in
    let j : ℕ = c.loop-j.j in
    let inside : j < length below = omega arith in
    let x = get_or below j (0, 0) in
    let Same : ℕ → ℕ → Type 0 = SameAt v.rows left below A in
    let same : ℕ = c.count_same-same.result in
    let line_is = c.line.ensures in
    let row_is = c.loop-j.invariant.row in
    let are : (i : ℕ) → i < same → Same i j = λ i l.
    subst (λ r. IsSamePart (line_of v.rows x.0) left A r x.1 i) row_is
    (subst (λ m. IsSamePart m left A c.loop-j.row x.1 i) line_is (c.count_same-same.ensures.same i l)) in
    record {
      row = omega (arith, row_is, width-next below j inside);
      first = elim c.if-same-end.branch [
        | then-same-end w ↦ subst (IsEarliest Same (length left) (j + 1) same) (sym w.at-is)
            (earliest-less Same (length left) j c.loop-j.end c.loop-j.at same c.loop-j.invariant.first
            w.if-same-end.true are
            (λ h. c.count_same-same.ensures.other w.if-same-end.true
            (subst (λ m. IsSamePart m left A c.loop-j.row x.1 same) (sym line_is)
            (subst (λ r. IsSamePart (line_of v.rows x.0) left A r x.1 same) (sym row_is) h))))
        | else-same-end w ↦ subst (IsEarliest Same (length left) (j + 1) same) (sym w.at-is)
            (earliest-kept Same (length left) j c.loop-j.end c.loop-j.at same c.loop-j.invariant.first
            (omega (arith, c.count_same-same.ensures.within, w.if-same-end.false)) are)
      ];
    }

pub returns-then-end-left : goal.returns-then-end-left
returns-then-end-left c =
    first-other c.args.b.now c.args.left.now c.args.below.now (matrix_of c.args.joined.now) c.requires.left_rises
    c.requires.below_rises c.requires.left_sized c.requires.below_sized
    c.loop-j.j c.loop-j.end c.loop-j.at c.loop-j.invariant.first (omega arith) (omega arith) c.if-end-left.true

pub returns-else-end-left : goal.returns-else-end-left
returns-else-end-left c =
    no-other c.args.b.now c.args.left.now c.args.below.now (matrix_of c.args.joined.now) c.requires.left_rises
    c.requires.below_rises c.requires.left_sized c.requires.below_sized
    c.loop-j.j c.loop-j.end c.loop-j.at c.loop-j.invariant.first (omega arith) c.if-end-left.false
