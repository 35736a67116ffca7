use Rattle.std.proofs.Common.{◌≡◌, take}
use Rattle.scalar_finish.specs.Splits.{coordinate_cells}
use Rattle.scalar_finish.proofs.coordinates.coordinate_cells.Given as goal

abbrev pub invariant-loop-cell : goal.invariant-loop-cell
invariant-loop-cell l = l.cells.items ≡ coordinate_cells 0 (take l.cell-index l.live)
