use Rattle.std.proofs.Common.{◌≡◌, ◌+◌, subst, sym, arith}
use Rattle.block_rows.specs.BlockRows.{AreScalarBlocks}
use Rattle.block_rows.proofs.RowLaws.{scalar-more}
use Rattle.block_rows.proofs.scalar_blocks.ScalarBlocks.all.Goals as goal

pub loop-entry-preserved : goal.loop-entry-preserved
loop-entry-preserved c =
    subst (λ bs. AreScalarBlocks bs (c.loop-entry.entry + 1)) (sym c.in_ok-push.ensures.items)
    (scalar-more c.loop-entry.blocks.items c.in_ok-scalar_block.field-0 c.loop-entry.entry c.loop-entry.invariant
    c.in_ok-scalar_block.ensures)

pub invariant_of-result : goal.invariant_of-result
invariant_of-result c =
    let end : c.loop-entry.entry ≡ 256 = omega arith in
    subst (AreScalarBlocks c.loop-entry.blocks.items) end c.loop-entry.invariant
