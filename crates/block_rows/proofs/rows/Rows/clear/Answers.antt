use Rattle.std.proofs.Common.{ap, ◌∙◌, cond, eqb, ◌&&◌}
use Rattle.rising_lists.specs.Rising.{has, line_of}
use Rattle.rising_lists.proofs.LineLaws.{entry-cleared}
use Rattle.block_rows.proofs.rows.Rows.clear.Goals as goal

pub returns-clause-entries : goal.returns-clause-entries
returns-clause-entries c = λ k p.
    let before = c.args.self.now in
    entry-cleared before (line_of c.put_row.new.self k) c.args.c k p
    (c.put_row.ensures.lines k ∙ ap (λ l. cond (eqb k c.args.c && has c.args.c before.cells) l (line_of before k))
    c.new.ensures)
