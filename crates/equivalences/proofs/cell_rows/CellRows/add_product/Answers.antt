use Rattle.std.proofs.Common.{◌≡◌, ◌≤◌, ◌*◌, ℕ, ap, ap₂, sym, ◌∙◌, subst, length, cond, eqb}
use Rattle.dense_blocks.specs.Field.{Ops}
use Rattle.dense_blocks.specs.Matrices.{cut}
use Rattle.dense_blocks.specs.MatrixFacts.{IsMatrix}
use Rattle.dense_blocks.specs.Blocks.{matrix_of}
use Rattle.equivalences.specs.Rows.{cell_rows_of, with_product}
use Rattle.equivalences.proofs.CellRowLaws.{rows-found, rows-set}
use Rattle.equivalences.proofs.cell_rows.CellRows.add_product.Goals as goal

pub add_product-requires-clause-rows : goal.add_product-requires-clause-rows
add_product-requires-clause-rows g c =
    let K : Ops = g.F.Scalars.ops c.args.f.now in
    let found = rw (c.unwrap-at.ensures, c.deref.ensures.value) at c.place.ensures in
    subst (λ A. IsMatrix K (length A) c.args.moved.now.cols A)
    (sym (ap (λ r. cell_rows_of r c.args.c) c.self.view_is)
    ∙ rows-found c.self.inside.cells.items c.self.inside.rows.items c.args.c c.unwrap-at.result
    c.index_mut-rows.result.now c.self.invariant found.0 found.1 c.index_mut-rows.ensures.value)
    c.requires.rows

pub add_product-requires-clause-some : goal.add_product-requires-clause-some
add_product-requires-clause-some g c =
    let found = rw (c.unwrap-at.ensures, c.deref.ensures.value) at c.place.ensures in
    subst (λ A. 1 ≤ length A)
    (sym (ap (λ r. cell_rows_of r c.args.c) c.self.view_is)
    ∙ rows-found c.self.inside.cells.items c.self.inside.rows.items c.args.c c.unwrap-at.result
    c.index_mut-rows.result.now c.self.invariant found.0 found.1 c.index_mut-rows.ensures.value)
    c.requires.some

pub add_product-requires-clause-full : goal.add_product-requires-clause-full
add_product-requires-clause-full g c =
    let found = rw (c.unwrap-at.ensures, c.deref.ensures.value) at c.place.ensures in
    c.requires.full
    ∙ ap (λ A. length A * c.args.moved.now.rows)
    (sym (ap (λ r. cell_rows_of r c.args.c) c.self.view_is)
    ∙ rows-found c.self.inside.cells.items c.self.inside.rows.items c.args.c c.unwrap-at.result
    c.index_mut-rows.result.now c.self.invariant found.0 found.1 c.index_mut-rows.ensures.value)

pub returns-clause-rows : goal.returns-clause-rows
returns-clause-rows g c = λ q.
    let K : Ops = g.F.Scalars.ops c.args.f.now in
    let found = rw (c.unwrap-at.ensures, c.deref.ensures.value) at c.place.ensures in
    let n : ℕ = c.args.moved.now.cols in
    let k : ℕ = c.args.moved.now.rows in
    let ks = c.self.inside.cells.items in
    let vs = c.self.inside.rows.items in
    let same : c.index_mut-rows.result.now ≡ cell_rows_of c.args.self.now c.args.c =
    sym (rows-found ks vs c.args.c c.unwrap-at.result c.index_mut-rows.result.now c.self.invariant found.0 found.1
    c.index_mut-rows.ensures.value)
    ∙ ap (λ r. cell_rows_of r c.args.c) c.self.view_is in
    rows-set ks vs c.args.c c.unwrap-at.result c.add_product.new.self c.self.invariant found.0 found.1 q
    ∙ ap₂ (cond (eqb q c.args.c))
    (c.in_ok-add_product.ensures
    ∙ ap (λ A. with_product K n A (cut (length A) k c.args.coefficients.now) (matrix_of c.args.moved.now)) same)
    (ap (λ r. cell_rows_of r q) c.self.view_is)
