use Rattle.std.proofs.Common.{ap, ◌∙◌, sym}
use Rattle.rising_lists.specs.Rising.{has, line_of}
use Rattle.rising_lists.proofs.LineLaws.{line-found}
use Rattle.rising_lists.proofs.lines.Lines.find_line.Goals as goal

pub returns-in-Some : goal.returns-in-Some
returns-in-Some g c =
    let h = rw c.deref.ensures.value at c.in-Some.ensures in
    sym (line-found c.self.inside.cells.items c.self.inside.lines.items c.args.c c.in-Some.at c.index.result.now
    c.self.invariant h.0 h.1 c.index.ensures)
    ∙ ap (λ v. line_of v c.args.c) c.self.view_is

pub returns-in-None : goal.returns-in-None
returns-in-None g c =
    let h = rw c.deref.ensures.value at c.in-None.ensures in
    ap (λ v. has c.args.c v.cells) (sym c.self.view_is) ∙ h
