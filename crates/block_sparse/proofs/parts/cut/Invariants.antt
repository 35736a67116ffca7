use Rattle.std.proofs.Common.{◌≡◌}
use Rattle.dense_blocks.specs.Blocks.{matrix_of}
use Rattle.dense_blocks.proofs.Cutting.{first_rows}
use Rattle.block_sparse.specs.Grids.{window}
use Rattle.block_sparse.proofs.parts.cut.Given as goal

abbrev pub invariant-loop-i : goal.invariant-loop-i
invariant-loop-i l = l.entries ≡ first_rows l.i (window l.row l.height l.col l.width (matrix_of l.joined))
