use Rattle.std.proofs.Common.{◌≡◌, take}
use Rattle.dense_blocks.specs.Matrices.{image_of}
use Rattle.dense_blocks.specs.Blocks.{matrix_of}
use Rattle.dense_blocks.proofs.operations.apply.Given as goal

abbrev pub invariant-loop-i : goal.invariant-loop-i
invariant-loop-i g l = l.image.items ≡ take l.i (image_of (g.F.Scalars.ops l.f) (matrix_of l.a) l.v)
