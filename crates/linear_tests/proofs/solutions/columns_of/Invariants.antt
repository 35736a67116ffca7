use Rattle.std.proofs.Common.{◌≡◌, length}
use Rattle.std.specs.Prelude.{All}
use Rattle.dense_blocks.specs.Vectors.{AllScalars}
use Rattle.linear_tests.proofs.solutions.columns_of.Given as goal

abbrev pub invariant-loop-row : goal.invariant-loop-row
invariant-loop-row g l = record {
  sizes : All (λ c. length c.items ≡ l.size) l.columns.items;
  scalars : All (λ c. AllScalars (g.F.Scalars.ops l.f) c.items) l.columns.items;
}
