use Rattle.std.proofs.Common.{◌≡◌, length, All}
use Rattle.dense_blocks.specs.Vectors.{AllScalars}
use Rattle.dense_blocks.specs.Two.{two}
use Rattle.sheaf_bench.proofs.matrices.columns.Given as goal

abbrev pub invariant-loop-column : goal.invariant-loop-column
invariant-loop-column l = record {
  sizes : All (λ c. length c.items ≡ l.n) l.columns.items;
  scalars : All (λ c. AllScalars two c.items) l.columns.items;
}
