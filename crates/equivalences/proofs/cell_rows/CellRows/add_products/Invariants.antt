use Rattle.dense_blocks.specs.Blocks.{matrix_of}
use Rattle.equivalences.proofs.CellRowLaws.{AreProductsLeft}
use Rattle.equivalences.proofs.cell_rows.CellRows.add_products.Given as goal

abbrev pub invariant-loop-cell : goal.invariant-loop-cell
invariant-loop-cell g l = AreProductsLeft (g.F.Scalars.ops l.f) l.moved.cols l.coefficients.cols l.listed
    (matrix_of l.coefficients) (matrix_of l.moved) l.initial.self l.cell-index l.rest l.self
