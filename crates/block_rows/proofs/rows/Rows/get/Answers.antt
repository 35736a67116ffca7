use Rattle.std.proofs.Common.{ap, ◌∙◌, sym}
use Rattle.rising_lists.specs.Rising.{entry, entry_of}
use Rattle.rising_lists.proofs.LineLaws.{line-found, line-absent}
use Rattle.block_rows.proofs.rows.Rows.get.Goals as goal

pub returns-in-Some : goal.returns-in-Some
returns-in-Some c =
    let h = rw c.deref.ensures.value at c.in-Some.ensures in
    c.get.ensures
    ∙ ap (λ l. entry l c.args.q)
    (sym (line-found c.self.inside.cells.items c.self.inside.rows.items c.args.c c.in-Some.at c.index.result.now
    c.self.invariant h.0 h.1 c.index.ensures))
    ∙ ap (λ v. entry_of v c.args.c c.args.q) c.self.view_is

pub returns-in-None : goal.returns-in-None
returns-in-None c =
    let h = rw c.deref.ensures.value at c.in-None.ensures in
    ap (λ l. entry l c.args.q) (sym (line-absent c.self.inside.cells.items c.self.inside.rows.items c.args.c h))
    ∙ ap (λ v. entry_of v c.args.c c.args.q) c.self.view_is
