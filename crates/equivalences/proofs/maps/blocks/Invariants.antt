use Rattle.std.proofs.Common.{◌≡◌, ◌+◌, length, get_or, []}
use Rattle.cochain_vec.specs.Complexes.{coordinates}
use Rattle.block_complexes.specs.Cochains.{complex_of}
use Rattle.block_sparse.specs.StoredBlocks.{complex_in}
use Rattle.equivalences.specs.LogMaps.{AreBlocksOf}
use Rattle.equivalences.proofs.maps.blocks.Given as goal

abbrev pub invariant-loop-k : goal.invariant-loop-k
invariant-loop-k l = record {
  count : length l.joined.items ≡ l.k;
  blocks : AreBlocksOf (coordinates (complex_of (complex_in l.base)))
      (λ k. coordinates (complex_of (complex_in l.base)) (k + 1)) (λ k. get_or l.h k []) l.joined.items;
}
