use Rattle.std.proofs.Common.{ap, ◌∙◌, sym}
use Rattle.std.specs.Option.{is_some}
use Rattle.rising_lists.specs.Rising.{has, entry, entry_of}
use Rattle.rising_lists.proofs.LineLaws.{cells-found, line-absent}
use Rattle.block_rows.proofs.rows.Rows.cells.Goals as goal

pub returns-in-Some-clause-cells : goal.returns-in-Some-clause-cells
returns-in-Some-clause-cells c = λ q.
    let h = rw c.deref.ensures.value at c.in-Some.ensures in
    ap (has q) c.cells.ensures.cells
    ∙ cells-found c.self.inside.cells.items c.self.inside.rows.items c.args.c c.in-Some.at c.index.result.now
    c.self.invariant h.0 h.1 c.index.ensures c.cells.ensures.line q
    ∙ ap (λ v. is_some (entry_of v c.args.c q)) c.self.view_is

pub returns-in-None-clause-cells : goal.returns-in-None-clause-cells
returns-in-None-clause-cells c = λ q.
    let h = rw c.deref.ensures.value at c.in-None.ensures in
    ap (λ l. is_some (entry l q)) (sym (line-absent c.self.inside.cells.items c.self.inside.rows.items c.args.c h))
    ∙ ap (λ v. is_some (entry_of v c.args.c q)) c.self.view_is
