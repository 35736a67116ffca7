use Rattle.std.proofs.Common.{ℕ, List, length, refl, sym, ap, ◌∙◌}
use Rattle.dense_blocks.specs.Field.{Ops}
use Rattle.dense_blocks.specs.FieldLaws.{IsField}
use Rattle.dense_blocks.specs.Vectors.{plus, multiple}
use Rattle.dense_blocks.proofs.Shapes.{vector_of}
use Rattle.dense_blocks.proofs.RowSteps.{plus-multiple-zero}
use Rattle.field_table.specs.Table.{ops_of}
use Rattle.field_table.specs.TableLaws.{table_is_field}
use Rattle.field_table.proofs.field.FieldScalars.add_scaled.Goals as goal

pub returns-then-k-eq0-clause-sum : goal.returns-then-k-eq0-clause-sum
returns-then-k-eq0-clause-sum c =
    let K : Ops = ops_of c.args.self.now in
    let h : IsField K = table_is_field c.args.self.now in
    let u : List ℕ = c.args.target.now in
    let row : List ℕ = c.args.row.now in
    sym (plus-multiple-zero K h (length u) u row (vector_of K (length u) u refl c.requires.target_scalars)
    (vector_of K (length u) row c.requires.sizes c.requires.row_scalars))
    ∙ ap (λ t. plus K u (multiple K t row)) (sym c.if-k-eq0.true)
