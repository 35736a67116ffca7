use Rattle.std.proofs.Common.{ap, ◌∙◌, sym, replicate, length}
use Rattle.rising_lists.specs.Rising.{entry}
use Rattle.open_columns.proofs.OpenLaws.{first-empty, nothing}
use Rattle.open_columns.proofs.columns.Columns.of_cells.Goals as goal

pub invariant_of-result : goal.invariant_of-result
invariant_of-result c =
    first-empty c.in_ok-of_cells.field-0 c.in_ok-of_cells-2.field-0 (c.in_ok-of_cells-2.ensures.cells
    ∙ sym c.in_ok-of_cells.ensures.cells)
    (c.in_ok-of_cells-2.ensures.none
    ∙ ap (λ cells. replicate (length cells) nothing) (sym c.in_ok-of_cells-2.ensures.cells))
    (λ s t. ap (λ l. entry l t) (c.in_ok-of_cells.ensures.empty s))
