use Rattle.std.proofs.Common.{ap, ◌∙◌}
use Rattle.rising_lists.specs.Rising.{line_of}
use Rattle.rising_lists.proofs.LineLaws.{lines-empty}
use Rattle.block_rows.proofs.rows.Rows.of_cells.Goals as goal

pub returns-clause-empty : goal.returns-clause-empty
returns-clause-empty c = λ k.
    ap (λ vs. line_of (record { cells = c.in_ok-from_slice.field-0.items; values = vs }) k) c.loop-cell.invariant
    ∙ lines-empty c.in_ok-from_slice.field-0.items c.loop-cell._cell-index k
