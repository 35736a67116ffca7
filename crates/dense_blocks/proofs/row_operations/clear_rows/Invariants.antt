use Rattle.dense_blocks.proofs.ClearingRows.{ClearsRows}
use Rattle.dense_blocks.proofs.row_operations.clear_rows.Given as goal

abbrev pub invariant-loop-i : goal.invariant-loop-i
invariant-loop-i g l = ClearsRows (g.F.Scalars.ops l.f) l.column l.pivot l.count l.initial.rows l.i l.rows
