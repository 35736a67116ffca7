use Rattle.dense_blocks.specs.Matrices.{cut}
use Rattle.dense_blocks.specs.Blocks.{matrix_of}
use Rattle.equivalences.specs.Rows.{with_product}
use Rattle.equivalences.proofs.RowLaws.{AreRowsDone}
use Rattle.equivalences.proofs.rows.add_rows.Given as goal

abbrev pub invariant-loop-i : goal.invariant-loop-i
invariant-loop-i g l = AreRowsDone (g.F.Scalars.ops l.f) l.moved.cols l.initial.rows
    (with_product (g.F.Scalars.ops l.f) l.moved.cols (cut l.count l.moved.cols l.initial.rows)
    (cut l.count l.moved.rows l.coefficients) (matrix_of l.moved)) l.i l.rows
