use Rattle.std.proofs.Common.{ap, ◌∙◌, cond, eqb, ◌&&◌, None, refl}
use Rattle.rising_lists.specs.Rising.{entry_of}
use Rattle.rising_lists.proofs.LineLaws.{entry-set, entry-spared}
use Rattle.block_rows.proofs.rows.Rows.remove.Goals as goal

pub returns-in-Some-clause-entries : goal.returns-in-Some-clause-entries
returns-in-Some-clause-entries c = λ k p.
    let h = rw c.deref.ensures.value at c.in-Some.ensures in
    entry-set c.self.inside.cells.items c.self.inside.rows.items c.args.c c.in-Some.at c.args.q
    c.index_mut-row.result.now c.remove.new.self None c.self.invariant h.0 h.1
    c.index_mut-row.ensures.value c.remove.ensures k p
    ∙ ap (λ w. cond (eqb k c.args.c && eqb p c.args.q) None (entry_of w k p)) c.self.view_is

pub returns-in_default-clause-entries : goal.returns-in_default-clause-entries
returns-in_default-clause-entries c = λ k p.
    let none = rw (c.deref.ensures.value, ap (λ l. l.cells) c.self.view_is) at c.in_default.ensures in
    entry-spared c.args.self.now c.args.c c.args.q None none refl k p
