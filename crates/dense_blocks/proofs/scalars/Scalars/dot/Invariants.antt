use Rattle.std.proofs.Common.{◌≡◌, ◌<◌}
use Rattle.dense_blocks.specs.Vectors.{dot}
use Rattle.dense_blocks.proofs.RowSteps.{dot_from}
use Rattle.dense_blocks.proofs.scalars.Scalars.dot.Given as goal

abbrev pub invariant-loop-i : goal.invariant-loop-i
invariant-loop-i g l = record {
  scalar : l.total < (g.Self.Scalars.ops l.self).order;
  rest : (g.Self.Scalars.ops l.self).add l.total (dot_from (g.Self.Scalars.ops l.self) l.i l.u l.v)
      ≡ dot (g.Self.Scalars.ops l.self) l.u
      l.v;
}
