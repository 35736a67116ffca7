use Rattle.std.proofs.Common.{◌≡◌, ℕ, ◌<◌, get_or, []}
use Rattle.dense_blocks.specs.Vectors.{combination}
use Rattle.dense_blocks.specs.Blocks.{matrix_of}
use Rattle.square_check.proofs.squares.square.Given as goal

abbrev pub invariant-loop-i : goal.invariant-loop-i
invariant-loop-i g l =
    (k : ℕ) → k < l.i → combination (g.F.Scalars.ops l.f) l.low1.cols (get_or (matrix_of l.up1) k []) (matrix_of l.low1)
    ≡ combination (g.F.Scalars.ops l.f) l.low1.cols (get_or (matrix_of l.up2) k []) (matrix_of l.low2)
