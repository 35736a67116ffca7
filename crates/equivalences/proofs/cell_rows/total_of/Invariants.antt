use Rattle.std.proofs.Common.{◌≡◌, take}
use Rattle.cochain_vec.specs.Complexes.{total_size}
use Rattle.block_complexes.specs.Cochains.{of_degree}
use Rattle.equivalences.proofs.cell_rows.total_of.Given as goal

abbrev pub invariant-loop-cell : goal.invariant-loop-cell
invariant-loop-cell l = l.total ≡ total_size (of_degree l.k (take l.cell-index l.live))
