use Rattle.std.proofs.Common.{ℕ, List, length, refl, ◌∙◌}
use Rattle.dense_blocks.specs.Field.{Ops}
use Rattle.dense_blocks.proofs.Shapes.{vector_of}
use Rattle.field_table.specs.Table.{ops_of}
use Rattle.field_table.specs.TableLaws.{table_is_field}
use Rattle.field_table.proofs.RowSums.{plus_rows-combination}
use Rattle.field_table.proofs.field.FieldScalars.add_combination.Goals as goal

pub returns-clause-sum : goal.returns-clause-sum
returns-clause-sum c =
    let K : Ops = ops_of c.args.self.now in
    let target : List ℕ = c.args.target.now in
    c.add_rows.ensures.sum
    ∙ plus_rows-combination K (table_is_field c.args.self.now) (length target) target c.args.coefficients.now
    c.args.rows.now (vector_of K (length target) target refl c.requires.target_scalars) c.requires.full
    c.requires.row_scalars
