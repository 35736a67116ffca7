use Rattle.std.proofs.Common.{◌≡◌, length}
use Rattle.dense_blocks.specs.Vectors.{AllScalars}
use Rattle.dense_blocks.specs.Two.{two}
use Rattle.sheaf_bench.proofs.matrices.sum_of.Given as goal

abbrev pub invariant-loop-column : goal.invariant-loop-column
invariant-loop-column l = record {
  size : length l.sum.items ≡ l.size;
  scalars : AllScalars two l.sum.items;
}
