use Rattle.std.proofs.Common.{◌≡◌, ◌≤◌, ℕ, true, All, ap₂, sym, ◌∙◌, subst}
use Rattle.dense_blocks.specs.MatrixFacts.{IsMatrix}
use Rattle.dense_blocks.specs.Blocks.{matrix_of}
use Rattle.rising_lists.specs.Rising.{has}
use Rattle.equivalences.specs.Rows.{cell_rows_of, with_products}
use Rattle.equivalences.proofs.maps.take_away.Goals as goal

pub add_products-requires-clause-listed : goal.add_products-requires-clause-listed
add_products-requires-clause-listed g c =
    subst (λ n. All (λ (l : ℕ × ℕ). (has l.0 c.args.rows.now.cells ≡ true) × (1 ≤ l.1)
    × IsMatrix (g.F.Scalars.ops c.args.f.now) l.1 n (cell_rows_of c.args.rows.now l.0)) c.args.listed.now)
    (sym c.in_ok-away.ensures.block.columns_are) c.requires.listed

pub returns-clause-rows : goal.returns-clause-rows
returns-clause-rows g c = λ q.
    c.in_ok-add_products.ensures.rows q
    ∙ ap₂ (λ n R. with_products (g.F.Scalars.ops c.args.f.now) n c.args.listed.now (matrix_of c.args.coefficients.now) R
    q (cell_rows_of c.args.rows.now q)) c.in_ok-away.ensures.block.columns_are c.in_ok-away.ensures.block.matrix_is
