use Rattle.std.proofs.Common.{◌≡◌, replicate}
use Rattle.rising_lists.proofs.LineLaws.{no_line}
use Rattle.rising_lists.proofs.lines.Lines.of_cells.Given as goal

abbrev pub invariant-loop-cell : goal.invariant-loop-cell
invariant-loop-cell g l = l.lines.items ≡ replicate l._cell-index no_line
