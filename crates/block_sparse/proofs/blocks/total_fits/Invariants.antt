use Rattle.std.proofs.Common.{◌≡◌, ◌≤◌, take}
use Rattle.block_complexes.specs.BlockComplexes.{live_size}
use Rattle.block_sparse.proofs.blocks.total_fits.Given as goal

abbrev pub invariant-loop-cell : goal.invariant-loop-cell
invariant-loop-cell l = record {
  total : l.total ≡ live_size (take l.cell-index l.live);
  most : l.total ≤ 4096;
}
