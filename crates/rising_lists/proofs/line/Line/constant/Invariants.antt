use Rattle.std.proofs.Common.{◌≡◌, replicate}
use Rattle.rising_lists.proofs.line.Line.constant.Given as goal

abbrev pub invariant-loop-cell : goal.invariant-loop-cell
invariant-loop-cell g l = l.values.items ≡ replicate l._cell-index l.value
