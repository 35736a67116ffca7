use Rattle.std.proofs.Common.{◌≡◌, ◌<◌, ℕ, None, get_or, length, take}
use Rattle.dense_blocks.specs.Blocks.{matrix_of}
use Rattle.block_sparse.specs.Grids.{width, window, IsPart}
use Rattle.block_sparse.proofs.parts.row_parts.Given as goal

abbrev pub invariant-loop-i : goal.invariant-loop-i
invariant-loop-i l = record {
  count : length l.parts.items ≡ l.i;
  col : l.col ≡ width (take l.i l.left);
  parts : (k : ℕ) → k < l.i → IsPart (get_or l.parts.items k None) l.height (get_or l.left k (0, 0)).1
      (window l.row l.height (width (take k l.left)) (get_or l.left k (0, 0)).1 (matrix_of l.joined));
}
