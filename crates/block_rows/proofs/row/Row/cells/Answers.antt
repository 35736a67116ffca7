use Rattle.std.proofs.Common.{subst}
use Rattle.rising_lists.specs.Rising.{IsLine}
use Rattle.dense_blocks.specs.declared.block.Block.{Block}
use Rattle.block_rows.proofs.RowLaws.{row-line}
use Rattle.block_rows.proofs.row.Row.cells.Goals as goal

pub returns-clause-line : goal.returns-clause-line
returns-clause-line c =
    subst (IsLine {A = Block}) c.self.view_is
    (row-line c.self.inside.entries c.self.inside.larger c.cells.ensures.line)
