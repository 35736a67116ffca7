use Rattle.std.proofs.Common.{◌≡◌, ◌++◌, drop}
use Rattle.sheaf_data.specs.Arrows.{numbered_cells}
use Rattle.coboundary.specs.Start.{with_stalks}
use Rattle.coboundary.proofs.start.live_cells.Given as goal

abbrev pub invariant-loop-cell : goal.invariant-loop-cell
invariant-loop-cell l = l.live.items ++ with_stalks (numbered_cells l.cell (drop l.cell l.dims) (drop l.cell l.stalks))
    ≡ with_stalks (numbered_cells 0 l.dims l.stalks)
