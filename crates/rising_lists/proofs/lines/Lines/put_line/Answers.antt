use Rattle.std.proofs.Common.{ap, ◌∙◌, cond, eqb, ◌&&◌}
use Rattle.rising_lists.specs.Rising.{line_of, has}
use Rattle.rising_lists.proofs.LineLaws.{line-put}
use Rattle.rising_lists.proofs.lines.Lines.put_line.Goals as goal

pub returns-in-Some-clause-lines : goal.returns-in-Some-clause-lines
returns-in-Some-clause-lines g c = λ k.
    let h = rw c.deref.ensures.value at c.in-Some.ensures in
    line-put c.self.inside.cells.items c.self.inside.lines.items c.args.c c.in-Some.at c.args.line c.self.invariant h.0
    h.1 k
    ∙ ap (λ v. cond (eqb k c.args.c && has c.args.c v.cells) c.args.line (line_of v k)) c.self.view_is
