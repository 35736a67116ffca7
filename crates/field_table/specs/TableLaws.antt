-- The laws of the fields of the table.
use Rattle.std.proofs.Common.{refl, lit≤}
use Rattle.dense_blocks.specs.FieldLaws.{IsField}
use Rattle.field_table.specs.declared.field.Field.{Field}
use Rattle.field_table.specs.declared.field.Field.TheVariants.{Two, Three, Five, Seven, Eleven, Thirteen, Seventeen}
use Rattle.field_table.specs.declared.field.Field.TheVariants.{Nineteen, TwentyThree, TwentyNine, ThirtyOne}
use Rattle.field_table.specs.Modular.{inverse}
use Rattle.field_table.specs.Table.{ops_of}
use Rattle.field_table.specs.ModularLaws.{modulo_is_field}

-- each order of the table passes the test, which computes here
pub table_is_field : (f : Field) → IsField (ops_of f)
unfolding inverse
table_is_field Two = modulo_is_field 2 (lit≤ tt) (lit≤ tt) refl
table_is_field Three = modulo_is_field 3 (lit≤ tt) (lit≤ tt) refl
table_is_field Five = modulo_is_field 5 (lit≤ tt) (lit≤ tt) refl
table_is_field Seven = modulo_is_field 7 (lit≤ tt) (lit≤ tt) refl
table_is_field Eleven = modulo_is_field 11 (lit≤ tt) (lit≤ tt) refl
table_is_field Thirteen = modulo_is_field 13 (lit≤ tt) (lit≤ tt) refl
table_is_field Seventeen = modulo_is_field 17 (lit≤ tt) (lit≤ tt) refl
table_is_field Nineteen = modulo_is_field 19 (lit≤ tt) (lit≤ tt) refl
table_is_field TwentyThree = modulo_is_field 23 (lit≤ tt) (lit≤ tt) refl
table_is_field TwentyNine = modulo_is_field 29 (lit≤ tt) (lit≤ tt) refl
table_is_field ThirtyOne = modulo_is_field 31 (lit≤ tt) (lit≤ tt) refl
