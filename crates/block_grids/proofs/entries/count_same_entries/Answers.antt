use Rattle.std.proofs.Common.{ℕ, ap, sym, subst, length, arith}
use Rattle.dense_blocks.specs.Blocks.{matrix_of}
use Rattle.dense_blocks.proofs.BlockLaws.{block-size}
use Rattle.block_grids.specs.Joined.{IsSameEntry}
use Rattle.block_grids.proofs.SingleLaws.{all-single, same-single}
use Rattle.block_grids.proofs.entries.count_same_entries.Goals as goal

pub returns-then-joined-left-clause-same : goal.returns-then-joined-left-clause-same
returns-then-joined-left-clause-same c = λ i l.
    let left = c.args.left.now in
    let A = matrix_of c.args.joined.now in
    (same-single c.args.line.now left A c.args.row c.args.height i
    (all-single left c.requires.sizes (omega (arith, c.requires.cols, c.if-joined-left.true)))
    c.if-height-eq1.true (omega (arith, l, c.count_same_scalars.ensures.within, c.requires.within))
    (omega (arith, block-size c.args.joined.now, c.requires.rows, c.if-height-eq1.true))
    (omega (
      arith,
      ap length c.row.ensures.row,
      c.row.ensures.size,
      l,
      c.count_same_scalars.ensures.within,
      c.requires.within,
      c.if-joined-left.true,
    ))).0
    (subst (λ r. IsSameEntry c.args.line.now left r i) c.row.ensures.row (c.count_same_scalars.ensures.same i l))

pub returns-then-joined-left-clause-other : goal.returns-then-joined-left-clause-other
returns-then-joined-left-clause-other c = λ l s.
    let left = c.args.left.now in
    let A = matrix_of c.args.joined.now in
    let i : ℕ = c.count_same_scalars.result in
    c.count_same_scalars.ensures.other l
    (subst (λ r. IsSameEntry c.args.line.now left r i) (sym c.row.ensures.row)
    ((same-single c.args.line.now left A c.args.row c.args.height i
    (all-single left c.requires.sizes (omega (arith, c.requires.cols, c.if-joined-left.true)))
    c.if-height-eq1.true (omega (arith, l, c.requires.within))
    (omega (arith, block-size c.args.joined.now, c.requires.rows, c.if-height-eq1.true))
    (omega (arith, ap length c.row.ensures.row, c.row.ensures.size, l, c.requires.within, c.if-joined-left.true))).1
    s))
