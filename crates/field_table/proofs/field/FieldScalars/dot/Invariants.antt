use Rattle.std.proofs.Common.{◌≡◌, ◌<◌, length}
use Rattle.dense_blocks.specs.Vectors.{dot}
use Rattle.field_table.specs.Table.{order_of, ops_of}
use Rattle.field_table.proofs.field.FieldScalars.dot.Given as goal

abbrev pub invariant-loop-us : goal.invariant-loop-us
invariant-loop-us l = record {
  sizes : length l.us ≡ length l.vs;
  scalar : l.total < order_of l.self;
  rest : (ops_of l.self).add l.total (dot (ops_of l.self) l.us l.vs) ≡ dot (ops_of l.self) l.u l.v;
}

abbrev pub decreases-loop-us : goal.decreases-loop-us
decreases-loop-us l = length l.us
