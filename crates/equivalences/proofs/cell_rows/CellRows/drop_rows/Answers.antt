use Rattle.std.proofs.Common.{ap, ◌∙◌}
use Rattle.equivalences.specs.Rows.{cell_rows_of}
use Rattle.equivalences.proofs.CellRowLaws.{rows-set-other}
use Rattle.equivalences.proofs.cell_rows.CellRows.drop_rows.Goals as goal

pub returns-clause-rows : goal.returns-clause-rows
returns-clause-rows c = λ q n.
    let found = rw (c.unwrap-at.ensures, c.deref.ensures.value) at c.place.ensures in
    rows-set-other c.self.inside.cells.items c.self.inside.rows.items c.args.c c.unwrap-at.result _ c.self.invariant
    found.0 found.1 q n
    ∙ ap (λ r. cell_rows_of r q) c.self.view_is
