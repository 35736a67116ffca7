use Rattle.reduce_step.proofs.DifferenceLaws.{found-resized}
use Rattle.reduce_step.proofs.differences.first_resized.Goals as goal

pub returns : goal.returns
returns c =
    let left = c.as_slice-left in
    let below = c.as_slice-below in
    let from = c.resized_cell-from in
    let to = c.resized_cell-to in
    let high = c.least in
    let low = c.least-2 in
    found-resized c.args.b.now c.args.foot.now left.result.now below.result.now left.ensures below.ensures from.result
    to.result from.ensures to.ensures
    low.result high.result low.ensures.is low.ensures.least high.ensures.is high.ensures.least
    c.with_to.result c.with_from.result c.earlier.result c.with_to.ensures c.with_from.ensures c.earlier.ensures
