use Rattle.reduce_step.proofs.DifferenceLaws.{found-gained}
use Rattle.reduce_step.proofs.differences.first_gained.Goals as goal

pub returns-then-is_live-2 : goal.returns-then-is_live-2
returns-then-is_live-2 c =
    let left = c.as_slice in
    let below = c.as_slice-then-is_live-2 in
    let from = c.unlisted-from in
    let to = c.unlisted-to in
    found-gained c.args.b.now c.args.foot.now (c.is_live.ensures.0 c.if-is_live.true)
    (c.is_live-then-is_live.ensures.0 c.if-is_live-2.true)
    left.result.now below.result.now left.ensures below.ensures c.row.result.now c.column.result.now c.row.ensures.cells
    c.column.ensures.cells
    from.result to.result from.ensures to.ensures c.with_to.result c.with_from.result c.earlier.result c.with_to.ensures
    c.with_from.ensures c.earlier.ensures
