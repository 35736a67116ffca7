use Rattle.std.specs.List.{flat_map}
use Rattle.std.proofs.Common.{◌≡◌, length}
use Rattle.cochain_vec.specs.Complexes.{coordinates, total_size}
use Rattle.block_complexes.specs.Cochains.{complex_of, of_degree}
use Rattle.block_sparse.specs.StoredBlocks.{complex_in}
use Rattle.equivalences.specs.Rows.{cell_rows_of}
use Rattle.equivalences.specs.LogMaps.{AreBlocksOf}
use Rattle.equivalences.proofs.maps.joined_rows.Given as goal

abbrev pub invariant-loop-k : goal.invariant-loop-k
invariant-loop-k l = record {
  count : length l.joined.items ≡ l.k;
  blocks : AreBlocksOf (λ k. total_size (of_degree k l.live)) (coordinates (complex_of (complex_in l.base)))
      (λ k. flat_map (λ t. cell_rows_of l.rows t.cell) (of_degree k l.live)) l.joined.items;
}
