use Rattle.std.proofs.Common.{◌≡◌, ◌<◌, ◌≤◌, ℕ, length, get_or, take}
use Rattle.dense_blocks.specs.Blocks.{matrix_of}
use Rattle.block_sparse.specs.Grids.{width}
use Rattle.block_grids.specs.Joined.{IsSameScalar}
use Rattle.block_grids.proofs.entries.count_same_parts.Given as goal

abbrev pub invariant-loop-i : goal.invariant-loop-i
invariant-loop-i l = record {
  col : l.col ≡ width (take l.i l.left);
  within : l.at ≤ length l.line.cells;
  passed : (a : ℕ) → a < l.at → l.i < length l.left → get_or l.line.cells a 0 < (get_or l.left l.i (0, 0)).0;
  same : (k : ℕ) → k < l.i → IsSameScalar l.line l.left (matrix_of l.joined) l.row l.height k;
}
