use Rattle.std.proofs.Common.{◌≡◌, ◌≢◌, ◌<◌, ℕ, get_or, take}
use Rattle.dense_blocks.specs.Blocks.{matrix_of}
use Rattle.block_sparse.specs.StoredBlocks.{block_at}
use Rattle.block_sparse.specs.Grids.{width, window, block_matrix, nonzero}
use Rattle.block_sparse.proofs.blocks.Blocks.is_row.Given as goal

abbrev pub invariant-loop-i : goal.invariant-loop-i
invariant-loop-i l = record {
  col : l.col ≡ width (take l.i l.left);
  same : (k : ℕ) → k < l.i → (get_or l.left k (0, 0)).0 ≢ l.x
      → block_matrix (block_at l.self (get_or l.left k (0, 0)).0 l.y)
      ≡ nonzero (window 0 l.joined.rows (width (take k l.left)) (get_or l.left k (0, 0)).1 (matrix_of l.joined));
}
