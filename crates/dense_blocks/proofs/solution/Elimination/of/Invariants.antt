use Rattle.std.proofs.Common.{◌≡◌}
use Rattle.dense_blocks.specs.Elimination.{Eliminates}
use Rattle.dense_blocks.specs.Solutions.{lists}
use Rattle.dense_blocks.proofs.solution.Elimination.of.Given as goal

abbrev pub invariant-loop-source : goal.invariant-loop-source
invariant-loop-source g l = record {
  same_size : l.elimination.size ≡ l.size;
  eliminates : Eliminates (g.F.Scalars.ops l.f) l.size (lists l.columns) l.source l.elimination.pivots.items;
}
