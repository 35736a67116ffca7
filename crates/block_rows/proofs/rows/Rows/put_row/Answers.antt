use Rattle.std.proofs.Common.{ap, ◌∙◌, cond, eqb, ◌&&◌}
use Rattle.rising_lists.specs.Rising.{line_of, has}
use Rattle.rising_lists.proofs.LineLaws.{line-put}
use Rattle.block_rows.proofs.rows.Rows.put_row.Goals as goal

pub returns-in-Some-clause-lines : goal.returns-in-Some-clause-lines
returns-in-Some-clause-lines c = λ k.
    let h = rw c.deref.ensures.value at c.in-Some.ensures in
    line-put c.self.inside.cells.items c.self.inside.rows.items c.args.c c.in-Some.at c.args.row c.self.invariant h.0
    h.1 k
    ∙ ap (λ v. cond (eqb k c.args.c && has c.args.c v.cells) c.args.row (line_of v k)) c.self.view_is
