use Rattle.dense_blocks.specs.Blocks.{matrix_of}
use Rattle.equivalences.proofs.ColumnLaws.{AreColumnsPut}
use Rattle.equivalences.proofs.transposed.put_columns.Given as goal

abbrev pub invariant-loop-i : goal.invariant-loop-i
invariant-loop-i l = AreColumnsPut l.a.rows (matrix_of l.a) l.i l.into
