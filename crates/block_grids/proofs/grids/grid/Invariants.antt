use Rattle.std.proofs.Common.{◌≡◌, take}
use Rattle.block_grids.specs.Joined.{joined_entries}
use Rattle.block_grids.proofs.grids.grid.Given as goal

abbrev pub invariant-loop-cell : goal.invariant-loop-cell
invariant-loop-cell l = l.entries ≡ joined_entries l.b.rows l.left (take l.cell-index l.below)
