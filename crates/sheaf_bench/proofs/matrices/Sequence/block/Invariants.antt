use Rattle.std.proofs.Common.{◌≡◌, length}
use Rattle.dense_blocks.specs.Vectors.{AllScalars}
use Rattle.dense_blocks.specs.Two.{two}
use Rattle.sheaf_bench.proofs.matrices.Sequence.block.Given as goal

abbrev pub invariant-loop-place : goal.invariant-loop-place
invariant-loop-place l = record {
  size : length l.entries.items ≡ l.place;
  scalars : AllScalars two l.entries.items;
}
