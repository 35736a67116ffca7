use Rattle.std.proofs.Common.{◌∙◌, arith}
use Rattle.dense_blocks.specs.Blocks.{matrix_of}
use Rattle.dense_blocks.proofs.BlockLaws.{block-size}
use Rattle.equivalences.proofs.Identities.{unit_rows-next, unit_rows-all}
use Rattle.equivalences.proofs.products.has_unit_rows.Goals as goal

pub loop-i-preserved : goal.loop-i-preserved
loop-i-preserved c =
    let block = c.args.block.now in
    unit_rows-next block.rows c.loop-i.i (matrix_of block) c.row.result.now (block-size block) c.loop-i-test.true
    c.loop-i.invariant c.row.ensures.row (c.row.ensures.size ∙ c.requires) c.if-not-is_unit.ensures

pub returns : goal.returns
returns c =
    let block = c.args.block.now in
    unit_rows-all block.rows c.loop-i.i (matrix_of block) (block-size block) (omega arith) c.loop-i.invariant
