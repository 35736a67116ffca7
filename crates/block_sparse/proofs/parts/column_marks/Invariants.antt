use Rattle.std.proofs.Common.{◌≡◌, ◌<◌, ℕ, None, get_or, length, take}
use Rattle.dense_blocks.specs.Blocks.{matrix_of}
use Rattle.block_sparse.specs.Fresh.{mark_of}
use Rattle.block_sparse.specs.Grids.{width, window}
use Rattle.block_sparse.proofs.parts.column_marks.Given as goal

abbrev pub invariant-loop-j : goal.invariant-loop-j
invariant-loop-j l = record {
  count : length l.marks.items ≡ l.j;
  row : l.row ≡ width (take l.j l.below);
  marks : (k : ℕ) → k < l.j → get_or l.marks.items k None
      ≡ mark_of (get_or l.below k (0, 0)).1 l.size (window (width (take k l.below)) (get_or l.below k (0, 0)).1 l.col
      l.size (matrix_of l.joined));
}
