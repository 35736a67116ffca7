use Rattle.std.proofs.Common.{ap, sym, ◌∙◌, ◌++◌}
use Rattle.equivalences.specs.Rows.{cell_rows_of, entries_of}
use Rattle.equivalences.proofs.CellRowLaws.{rows-found, block-entries}
use Rattle.equivalences.proofs.cell_rows.CellRows.push_at.Goals as goal

pub returns : goal.returns
returns c =
    let found = rw (c.unwrap-at.ensures, c.deref.ensures.value) at c.place.ensures in
    c.in_ok-push_all.ensures.ok
    ∙ ap (λ t. c.args.entries.now ++ t)
    (c.as_slice.ensures
    ∙ block-entries c.in_ok-block.block
    ∙ ap entries_of
    (c.in_ok-block.ensures
    ∙ sym (rows-found c.self.inside.cells.items c.self.inside.rows.items c.args.c c.unwrap-at.result
    c.index-rows.result.now c.self.invariant found.0 found.1 c.index-rows.ensures)
    ∙ ap (λ r. cell_rows_of r c.args.c) c.self.view_is))
