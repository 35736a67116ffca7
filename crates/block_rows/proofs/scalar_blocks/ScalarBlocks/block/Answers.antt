use Rattle.std.proofs.Common.{◌∙◌, arith}
use Rattle.block_rows.proofs.scalar_blocks.ScalarBlocks.block.Goals as goal

pub returns : goal.returns
returns c = c.index.ensures ∙ c.self.invariant.each c.args.entry c.index.result.now (omega arith)
