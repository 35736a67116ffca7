use Rattle.std.proofs.Common.{◌≡◌, length, take}
use Rattle.dense_blocks.specs.Blocks.{matrix_of}
use Rattle.block_sparse.specs.Grids.{width}
use Rattle.block_sparse.specs.Fresh.{AreFreshRows}
use Rattle.block_sparse.proofs.fresh.fresh_rows.Given as goal

abbrev pub invariant-loop-j : goal.invariant-loop-j
invariant-loop-j l = record {
  count : length l.fresh.items ≡ l.j;
  row : l.row ≡ width (take l.j l.below);
  fresh : AreFreshRows (matrix_of l.joined) l.left l.below l.rows l.fresh.items l.j;
}
