use Rattle.std.proofs.Common.{ap, ◌∙◌, sym}
use Rattle.rising_lists.specs.Rising.{line_of}
use Rattle.rising_lists.proofs.LineLaws.{line-found}
use Rattle.block_rows.proofs.rows.Rows.row.Goals as goal

pub returns : goal.returns
returns c =
    let found = rw (c.unwrap-at.ensures, c.deref.ensures.value) at c.place.ensures in
    sym (line-found c.self.inside.cells.items c.self.inside.rows.items c.args.c c.unwrap-at.result c.index.result.now
    c.self.invariant found.0 found.1 c.index.ensures)
    ∙ ap (λ v. line_of v c.args.c) c.self.view_is
