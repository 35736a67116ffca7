use Rattle.std.proofs.Common.{◌≡◌}
use Rattle.dense_blocks.specs.Matrices.{product}
use Rattle.dense_blocks.specs.Blocks.{matrix_of}
use Rattle.dense_blocks.proofs.Cutting.{first_rows}
use Rattle.dense_blocks.proofs.operations.product.Given as goal

abbrev pub invariant-loop-i : goal.invariant-loop-i
invariant-loop-i g l = l.entries
    ≡ first_rows l.i (product (g.F.Scalars.ops l.f) l.b.cols (matrix_of l.a) (matrix_of l.b))
