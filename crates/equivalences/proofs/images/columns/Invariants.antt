use Rattle.std.proofs.Common.{take}
use Rattle.dense_blocks.specs.Blocks.{matrix_of}
use Rattle.equivalence_laws.specs.Transposes.{transpose}
use Rattle.equivalences.specs.CochainLists.{AreCochains}
use Rattle.equivalences.proofs.images.columns.Given as goal

abbrev pub invariant-loop-j : goal.invariant-loop-j
invariant-loop-j l = AreCochains l.degree (take l.j (transpose l.block.cols (matrix_of l.block))) l.cochains.items
