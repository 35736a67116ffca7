use Rattle.std.proofs.Common.{ap, ◌∙◌, cond, eqb}
use Rattle.rising_lists.specs.Rising.{line_of}
use Rattle.rising_lists.proofs.LineLaws.{line-set}
use Rattle.rising_lists.proofs.lines.Lines.replace_line.Goals as goal

pub returns-clause-lines : goal.returns-clause-lines
returns-clause-lines g c = λ k.
    let found = rw (c.unwrap-at.ensures, c.deref.ensures.value) at c.place.ensures in
    rw c.replace.ensures.after
    (line-set c.self.inside.cells.items c.self.inside.lines.items c.args.c c.unwrap-at.result c.args.line
    c.self.invariant found.0 found.1 k
    ∙ ap (λ v. cond (eqb k c.args.c) c.args.line (line_of v k)) c.self.view_is)
