use Rattle.std.proofs.Common.{◌≡◌, take}
use Rattle.dense_blocks.specs.Vectors.{AllScalars}
use Rattle.query_answers.proofs.classes.scalars.Given as goal

abbrev pub invariant-loop-number : goal.invariant-loop-number
invariant-loop-number g l = record {
  scalars : l.scalars.items ≡ take l.number-index l.numbers;
  below : AllScalars (g.F.Scalars.ops l.f) (take l.number-index l.numbers);
}
