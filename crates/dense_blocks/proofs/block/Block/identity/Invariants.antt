use Rattle.std.proofs.Common.{◌≡◌}
use Rattle.dense_blocks.specs.MatrixFacts.{identity}
use Rattle.dense_blocks.proofs.Cutting.{first_rows}
use Rattle.dense_blocks.proofs.block.Block.identity.Given as goal

abbrev pub invariant-loop-i : goal.invariant-loop-i
invariant-loop-i l = l.entries ≡ first_rows l.i (identity l.n)
