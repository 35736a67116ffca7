use Rattle.std.proofs.Common.{◌<◌, ℕ, get_or}
use Rattle.block_complexes.specs.BlockComplexes.{cells}
use Rattle.block_sparse.proofs.blocks.rises.Given as goal

abbrev pub invariant-loop-i : goal.invariant-loop-i
invariant-loop-i l = (j k : ℕ) → j < k → k < l.i → get_or (cells l.live) j 0 < get_or (cells l.live) k 0
