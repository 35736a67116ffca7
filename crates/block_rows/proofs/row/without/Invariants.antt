use Rattle.std.proofs.Common.{◌≡◌, replicate, None}
use Rattle.block_rows.proofs.row.without.Given as goal

abbrev pub invariant-loop-cell : goal.invariant-loop-cell
invariant-loop-cell l = l.none.items ≡ replicate l._cell-index None
