use Rattle.std.proofs.Common.{◌≡◌, ◌++◌, length}
use Rattle.scalar_finish.specs.Splits.{unit_cells}
use Rattle.scalar_finish.proofs.coordinates.push_cells.Given as goal

abbrev pub invariant-loop-i : goal.invariant-loop-i
invariant-loop-i l = l.cells.items ≡ l.fn.cells.items ++ unit_cells (length l.fn.cells.items) l.degree l.i
