use Rattle.std.proofs.Common.{◌≡◌, ◌*◌, map, drop}
use Rattle.dense_blocks.specs.Matrices.{cut}
use Rattle.dense_blocks.proofs.Cutting.{first_rows}
use Rattle.dense_blocks.proofs.inversion.right_half.Given as goal

abbrev pub invariant-loop-i : goal.invariant-loop-i
invariant-loop-i l = l.entries ≡ first_rows l.i (map (drop l.n) (cut l.n (2 * l.n) l.rows))
