use Rattle.std.proofs.Common.{◌*◌, ℕ, List, ap, sym, ◌∙◌, subst, length, get_or, cond, eqb, take, drop}
use Rattle.dense_blocks.specs.Field.{Ops}
use Rattle.dense_blocks.specs.FieldLaws.{IsField}
use Rattle.dense_blocks.specs.Matrices.{cut}
use Rattle.dense_blocks.specs.Blocks.{matrix_of}
use Rattle.dense_blocks.proofs.Shapes.{Matrix}
use Rattle.dense_blocks.proofs.Cutting.{cut-matrix}
use Rattle.equivalences.specs.Rows.{cell_rows_of, with_product}
use Rattle.equivalences.proofs.CellRowLaws.{AreProductsLeft, products_left-start, products_left-next}
use Rattle.equivalences.proofs.CellRowLaws.{products_left-end, get_or-same}
use Rattle.equivalences.proofs.cell_rows.CellRows.add_products.Goals as goal

pub loop-cell-init : goal.loop-cell-init
loop-cell-init g c =
    let K : Ops = g.F.Scalars.ops c.args.f.now in
    let a = c.args.coefficients.now in
    let b = c.args.moved.now in
    subst (λ xs. AreProductsLeft K b.cols a.cols c.args.listed.now (matrix_of a) (matrix_of b) c.args.self.now 0 xs
    c.args.self.now) (sym c.as_slice-rest.ensures)
    (products_left-start K b.cols a.cols a.rows c.args.listed.now (matrix_of b) c.args.self.now a.entries
    c.requires.rows a.full c.requires.coefficient_scalars c.requires.listed)

pub loop-cell-preserved : goal.loop-cell-preserved
loop-cell-preserved g c =
    let K : Ops = g.F.Scalars.ops c.args.f.now in
    let F : IsField K = g.met.F.Scalars.is_field c.args.f.now in
    let a = c.args.coefficients.now in
    let b = c.args.moved.now in
    let ls = c.args.listed.now in
    let i : ℕ = c.loop-cell.cell-index in
    let l : ℕ × ℕ = get_or ls i (0, 0) in
    let now = c.loop-cell.self in
    let rest : List ℕ = c.loop-cell.rest.now in
    let own : List ℕ = c.split_at.result.0.now in
    let hR : Matrix K a.cols b.cols (matrix_of b) =
    subst (λ k. Matrix K k b.cols (matrix_of b)) (sym c.requires.columns)
    (cut-matrix K b.rows b.cols b.entries b.full c.requires.moved_scalars) in
    products_left-next K F b.cols a.cols ls (matrix_of a) (matrix_of b) hR c.args.self.now i l c.loop-cell-test.true
    (get_or-same ls i (0, 0) l c.loop-cell-test.true) rest now c.loop-cell.invariant own c.split_at.result.1.now
    (c.split_at.ensures.front ∙ ap (λ m. take (m * a.cols) rest) c.from.ensures)
    (c.split_at.ensures.back ∙ ap (λ m. drop (m * a.cols) rest) c.from.ensures)
    c.add_product.new.self c.add_product.ensures.cells
    (λ q. c.in_ok-add_product.ensures.rows q
    ∙ ap (λ k. cond (eqb q l.0) (with_product K b.cols (cell_rows_of now l.0)
    (cut (length (cell_rows_of now l.0)) k own) (matrix_of b)) (cell_rows_of now q)) (sym c.requires.columns))

pub returns-clause-rows : goal.returns-clause-rows
returns-clause-rows g c =
    let a = c.args.coefficients.now in
    let b = c.args.moved.now in
    products_left-end (g.F.Scalars.ops c.args.f.now) b.cols a.cols c.args.listed.now (matrix_of a) (matrix_of b)
    c.args.self.now c.loop-cell.cell-index c.loop-cell.rest.now c.loop-cell.self c.loop-cell.invariant
    c.loop-cell-test.false
