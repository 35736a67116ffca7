use Rattle.std.proofs.Common.{◌≡◌, length, take}
use Rattle.dense_blocks.specs.Blocks.{matrix_of}
use Rattle.block_sparse.specs.Grids.{width}
use Rattle.block_sparse.specs.Fresh.{AreFreshColumns}
use Rattle.block_sparse.proofs.fresh.fresh_columns.Given as goal

abbrev pub invariant-loop-i : goal.invariant-loop-i
invariant-loop-i l = record {
  count : length l.fresh.items ≡ l.i;
  col : l.col ≡ width (take l.i l.left);
  fresh : AreFreshColumns (matrix_of l.joined) l.left l.below l.columns l.fresh.items l.i;
}
