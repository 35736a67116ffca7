use Rattle.std.proofs.Common.{◌≡◌, take, map, get_or}
use Rattle.dense_blocks.specs.Blocks.{matrix_of}
use Rattle.equivalences.proofs.images.column.Given as goal

abbrev pub invariant-loop-i : goal.invariant-loop-i
invariant-loop-i l = l.values.items ≡ take l.i (map (λ row. get_or row l.j 0) (matrix_of l.block))
