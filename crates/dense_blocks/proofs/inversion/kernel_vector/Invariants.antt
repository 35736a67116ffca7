use Rattle.std.proofs.Common.{◌≡◌, ◌*◌, map, take, get_or}
use Rattle.dense_blocks.specs.Matrices.{cut}
use Rattle.dense_blocks.proofs.inversion.kernel_vector.Given as goal

abbrev pub invariant-loop-i : goal.invariant-loop-i
invariant-loop-i g l = l.v.items ≡ map (λ row. (g.F.Scalars.ops l.f).neg (get_or row l.column 0))
    (take l.i (cut l.size (2 * l.size) l.rows))
