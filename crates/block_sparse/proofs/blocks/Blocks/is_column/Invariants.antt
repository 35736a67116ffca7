use Rattle.std.proofs.Common.{◌≡◌, ◌≢◌, ◌<◌, ℕ, get_or, take}
use Rattle.dense_blocks.specs.Blocks.{matrix_of}
use Rattle.block_sparse.specs.StoredBlocks.{block_at}
use Rattle.block_sparse.specs.Grids.{width, window, block_matrix, nonzero}
use Rattle.block_sparse.proofs.blocks.Blocks.is_column.Given as goal

abbrev pub invariant-loop-j : goal.invariant-loop-j
invariant-loop-j l = record {
  row : l.row ≡ width (take l.j l.below);
  same : (k : ℕ) → k < l.j → (get_or l.below k (0, 0)).0 ≢ l.y
      → block_matrix (block_at l.self l.x (get_or l.below k (0, 0)).0)
      ≡ nonzero (window (width (take k l.below)) (get_or l.below k (0, 0)).1 0 l.joined.cols (matrix_of l.joined));
}
