use Rattle.std.proofs.Common.{◌≡◌}
use Rattle.dense_blocks.specs.Vectors.{AllScalars, plus, multiple}
use Rattle.dense_blocks.proofs.RowSteps.{changed}
use Rattle.dense_blocks.proofs.scalars.Scalars.add_scaled.Given as goal

abbrev pub invariant-loop-i : goal.invariant-loop-i
invariant-loop-i g l = record {
  now : l.target ≡ changed l.i
      (plus (g.Self.Scalars.ops l.self) l.initial.target (multiple (g.Self.Scalars.ops l.self) l.k l.row))
      l.initial.target;
  scalars : AllScalars (g.Self.Scalars.ops l.self) l.target;
}
