use Rattle.std.proofs.Common.{ap, ◌∙◌, eqb, cond, Some}
use Rattle.rising_lists.specs.Rising.{entry}
use Rattle.block_rows.specs.BlockRows.{scalar_block}
use Rattle.block_rows.proofs.RowLaws.{entry-pushed}
use Rattle.block_rows.proofs.row.Row.push_entry.Goals as goal

pub returns-clause-entries : goal.returns-clause-entries
returns-clause-entries c = λ q.
    entry-pushed c.self.inside.entries c.push.new.self c.self.inside.larger c.remove.new.self c.args.c c.args.value q
    (c.in_ok-push.ensures.entries q) (c.remove.ensures q)
    ∙ ap (λ r. cond (eqb q c.args.c) (Some (scalar_block c.args.value)) (entry r q)) c.self.view_is
