use Rattle.std.proofs.Common.{◌≡◌, ◌<◌, ◌+◌, ℕ, length, get_or, []}
use Rattle.dense_blocks.specs.MatrixFacts.{zero_matrix}
use Rattle.cochain_vec.specs.Complexes.{coordinates}
use Rattle.block_complexes.specs.Cochains.{complex_of}
use Rattle.block_sparse.specs.StoredBlocks.{complex_in}
use Rattle.equivalences.proofs.maps.Maps.first.Given as goal

abbrev pub invariant-loop-k : goal.invariant-loop-k
invariant-loop-k l = record {
  count : length l.h.items ≡ l.k;
  zeros : (j : ℕ) → j < l.k → get_or l.h.items j [] ≡ zero_matrix (coordinates (complex_of (complex_in l.base)) j)
      (coordinates (complex_of (complex_in l.base)) (j + 1));
}
