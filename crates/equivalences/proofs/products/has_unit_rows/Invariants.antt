use Rattle.std.proofs.Common.{◌≡◌, take}
use Rattle.dense_blocks.specs.MatrixFacts.{identity}
use Rattle.dense_blocks.specs.Blocks.{matrix_of}
use Rattle.equivalences.proofs.products.has_unit_rows.Given as goal

abbrev pub invariant-loop-i : goal.invariant-loop-i
invariant-loop-i l = take l.i (matrix_of l.block) ≡ take l.i (identity l.block.rows)
