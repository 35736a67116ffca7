use Rattle.std.proofs.Common.{◌≡◌}
use Rattle.dense_blocks.specs.MatrixFacts.{identity}
use Rattle.dense_blocks.specs.Blocks.{matrix_of}
use Rattle.dense_blocks.specs.Columns.{beside}
use Rattle.dense_blocks.proofs.Cutting.{first_rows}
use Rattle.dense_blocks.proofs.inversion.beside_identity.Given as goal

abbrev pub invariant-loop-i : goal.invariant-loop-i
invariant-loop-i l = l.entries ≡ first_rows l.i (beside (matrix_of l.a) (identity l.a.rows))
