use Rattle.std.proofs.Common.{◌≡◌}
use Rattle.dense_blocks.specs.Vectors.{AllScalars, multiple}
use Rattle.dense_blocks.proofs.RowSteps.{changed}
use Rattle.dense_blocks.proofs.scalars.Scalars.scale.Given as goal

abbrev pub invariant-loop-entry : goal.invariant-loop-entry
invariant-loop-entry g l = record {
  now : l.target ≡ changed l.entry-index (multiple (g.Self.Scalars.ops l.self) l.k l.initial.target) l.initial.target;
  scalars : AllScalars (g.Self.Scalars.ops l.self) l.target;
}
