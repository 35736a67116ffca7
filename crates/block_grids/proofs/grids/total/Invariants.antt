use Rattle.std.proofs.Common.{◌≡◌, take}
use Rattle.block_sparse.specs.Grids.{width}
use Rattle.block_grids.proofs.grids.total.Given as goal

abbrev pub invariant-loop-cell : goal.invariant-loop-cell
invariant-loop-cell l = l.total ≡ width (take l.cell-index l.listed)
