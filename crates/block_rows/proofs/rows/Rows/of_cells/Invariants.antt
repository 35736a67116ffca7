use Rattle.std.proofs.Common.{◌≡◌, replicate}
use Rattle.rising_lists.proofs.LineLaws.{no_line}
use Rattle.block_rows.proofs.rows.Rows.of_cells.Given as goal

abbrev pub invariant-loop-cell : goal.invariant-loop-cell
invariant-loop-cell l = l.rows.items ≡ replicate l._cell-index no_line
