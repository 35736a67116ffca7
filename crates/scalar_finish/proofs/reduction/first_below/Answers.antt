use Rattle.std.proofs.Common.{◌<◌, length, rules}
use Rattle.scalar_finish.proofs.PairLaws.{first-below}
use Rattle.scalar_finish.proofs.reduction.first_below.Goals as goal

pub returns-else-is_empty : goal.returns-else-is_empty
returns-else-is_empty c =
    let column = c.column-column.result.now in
    let some : 0 < length column = search rules in
    first-below c.args.b.now c.args.x column c.column-column.ensures.cells c.column-column.ensures.rising
    c.column-column.ensures.blocks some
