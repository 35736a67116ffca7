use Rattle.dense_blocks.proofs.SameBlocks.{same_block}
use Rattle.block_rows.specs.BlockRows.{scalar_block}
use Rattle.block_rows.proofs.scalar_blocks.scalar_block.Goals as goal

pub returns : goal.returns
returns c =
    same_block c.in_ok-block.block (scalar_block c.args.entry) c.in_ok-block.ensures.block.rows_are
    c.in_ok-block.ensures.block.columns_are c.in_ok-block.ensures.entries
