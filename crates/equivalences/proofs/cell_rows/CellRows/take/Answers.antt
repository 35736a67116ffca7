use Rattle.std.proofs.Common.{ap, sym, ◌∙◌}
use Rattle.equivalences.specs.Rows.{cell_rows_of}
use Rattle.equivalences.proofs.CellRowLaws.{rows-found, rows-set-other}
use Rattle.equivalences.proofs.cell_rows.CellRows.take.Goals as goal

pub returns-clause-block : goal.returns-clause-block
returns-clause-block c =
    let found = rw (c.unwrap-at.ensures, c.deref.ensures.value) at c.place.ensures in
    c.in_ok-block.ensures
    ∙ c.replace-rows.ensures.value
    ∙ sym (rows-found c.self.inside.cells.items c.self.inside.rows.items c.args.c c.unwrap-at.result
    c.index_mut-place.result.now c.self.invariant found.0 found.1 c.index_mut-place.ensures.value)
    ∙ ap (λ r. cell_rows_of r c.args.c) c.self.view_is

pub returns-clause-rows : goal.returns-clause-rows
returns-clause-rows c = λ q n.
    let found = rw (c.unwrap-at.ensures, c.deref.ensures.value) at c.place.ensures in
    rows-set-other c.self.inside.cells.items c.self.inside.rows.items c.args.c c.unwrap-at.result _ c.self.invariant
    found.0 found.1 q n
    ∙ ap (λ r. cell_rows_of r q) c.self.view_is
