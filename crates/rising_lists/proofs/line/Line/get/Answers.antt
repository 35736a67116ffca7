use Rattle.std.proofs.Common.{ap, ◌∙◌, sym}
use Rattle.rising_lists.specs.Rising.{entry}
use Rattle.rising_lists.proofs.Keyed.{look-found, look-absent}
use Rattle.rising_lists.proofs.line.Line.get.Goals as goal

pub returns-in-Some : goal.returns-in-Some
returns-in-Some g c =
    let h = rw c.deref.ensures.value at c.in-Some.ensures in
    sym (look-found c.self.inside.cells.items c.self.inside.values.items c.args.c c.in-Some.at c.index.result.now
    c.self.invariant.full c.self.invariant.rising h.0 h.1 c.index.ensures)
    ∙ ap (λ e. entry e c.args.c) c.self.view_is

pub returns-in-None : goal.returns-in-None
returns-in-None g c =
    let h = rw c.deref.ensures.value at c.in-None.ensures in
    sym (look-absent c.args.c c.self.inside.cells.items c.self.inside.values.items h)
    ∙ ap (λ e. entry e c.args.c) c.self.view_is
