use Rattle.std.proofs.Common.{◌*◌}
use Rattle.dense_blocks.specs.Matrices.{cut}
use Rattle.dense_blocks.specs.Columns.{HasUnitColumns}
use Rattle.dense_blocks.proofs.row_operations.eliminate.Given as goal

abbrev pub invariant-loop-column : goal.invariant-loop-column
invariant-loop-column g l = HasUnitColumns (g.F.Scalars.ops l.f) l.size l.column
    (cut l.size (2 * l.size) l.initial.rows) (cut l.size (2 * l.size) l.rows)
