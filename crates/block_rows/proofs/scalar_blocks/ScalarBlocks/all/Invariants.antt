use Rattle.block_rows.specs.BlockRows.{AreScalarBlocks}
use Rattle.block_rows.proofs.scalar_blocks.ScalarBlocks.all.Given as goal

abbrev pub invariant-loop-entry : goal.invariant-loop-entry
invariant-loop-entry l = AreScalarBlocks l.blocks.items l.entry
