use Rattle.std.proofs.Common.{ap, ◌∙◌, sym, Some}
use Rattle.std.specs.Option.{option_map}
use Rattle.rising_lists.specs.Rising.{entry}
use Rattle.block_rows.specs.BlockRows.{block_or}
use Rattle.block_rows.proofs.RowLaws.{entry-row}
use Rattle.block_rows.proofs.row.Row.get.Goals as goal

pub returns-in-Some : goal.returns-in-Some
returns-in-Some c =
    ap Some c.larger_or.ensures
    ∙ ap (option_map (block_or c.self.inside.larger c.args.c)) c.in-Some.ensures
    ∙ sym (entry-row c.self.inside.entries c.self.inside.larger c.args.c)
    ∙ ap (λ r. entry r c.args.c) c.self.view_is

pub returns-in-None : goal.returns-in-None
returns-in-None c =
    ap (option_map (block_or c.self.inside.larger c.args.c)) c.in-None.ensures
    ∙ sym (entry-row c.self.inside.entries c.self.inside.larger c.args.c)
    ∙ ap (λ r. entry r c.args.c) c.self.view_is
