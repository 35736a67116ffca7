-- A field of the table, by its calls on scalars.
use Rattle.dense_blocks.specs.Field.{Ops}
use Rattle.dense_blocks.specs.FieldLaws.{IsField}
use Rattle.field_table.specs.Table.{ops_of}
use Rattle.field_table.specs.TableLaws.{table_is_field}
use Rattle.linear_tests.specs.declared.by_entries.ByEntries.{ByEntries}

abbrev pub by_entries : ByEntries → Ops
by_entries f = ops_of f.field

pub by_entries_is_field : (f : ByEntries) → IsField (by_entries f)
by_entries_is_field f = table_is_field f.field
