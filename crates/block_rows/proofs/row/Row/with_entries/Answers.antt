use Rattle.std.proofs.Common.{ap, ◌∙◌, map, arith}
use Rattle.std.specs.Option.{option_map}
use Rattle.std.proofs.lemmas.List.{length-map}
use Rattle.rising_lists.specs.Rising.{keys, entry, entry_after, nonzero_entry}
use Rattle.block_rows.specs.BlockRows.{scalar_block}
use Rattle.block_rows.proofs.RowLaws.{entry-entries}
use Rattle.block_rows.proofs.row.Row.with_entries.Goals as goal

pub returns : goal.returns
returns c = λ q.
    let ks = keys c.args.listed.now in
    let es = map nonzero_entry c.args.entries.now in
    entry-entries c.self.inside.entries c.in_ok-with_entries.field-0 c.self.inside.larger c.in_ok-without.field-0 ks
    es q (omega (
      arith,
      length-map c.args.entries.now nonzero_entry,
      c.requires.full,
      length-map c.args.listed.now (λ s. s.0),
    ))
    (c.in_ok-with_entries.ensures q) (c.in_ok-without.ensures q)
    ∙ ap (λ r. entry_after ks (map (option_map scalar_block) es) (entry r q) q) c.self.view_is
