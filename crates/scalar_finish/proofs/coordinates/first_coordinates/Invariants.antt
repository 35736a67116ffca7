use Rattle.std.proofs.Common.{◌≡◌, take}
use Rattle.block_complexes.specs.BlockComplexes.{live_size}
use Rattle.scalar_finish.specs.Entries.{first_coordinates}
use Rattle.scalar_finish.proofs.coordinates.first_coordinates.Given as goal

abbrev pub invariant-loop-cell : goal.invariant-loop-cell
invariant-loop-cell l =
    (l.firsts.items ≡ first_coordinates 0 (take l.cell-index l.live))
    × (l.count ≡ live_size (take l.cell-index l.live))
