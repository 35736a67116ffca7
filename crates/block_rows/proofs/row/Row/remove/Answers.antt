use Rattle.std.proofs.Common.{ap, ◌∙◌, eqb, cond, None}
use Rattle.rising_lists.specs.Rising.{entry}
use Rattle.block_rows.proofs.RowLaws.{entry-without}
use Rattle.block_rows.proofs.row.Row.remove.Goals as goal

pub returns : goal.returns
returns c = λ q.
    entry-without c.self.inside.entries c.remove.new.self c.self.inside.larger c.remove-2.new.self (eqb q c.args.c) q
    (c.remove.ensures q) (c.remove-2.ensures q)
    ∙ ap (λ r. cond (eqb q c.args.c) None (entry r q)) c.self.view_is
