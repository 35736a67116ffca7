use Rattle.std.proofs.Common.{ℕ, ap, ◌∙◌, length, arith, map}
use Rattle.std.specs.Option.{option_map}
use Rattle.std.proofs.lemmas.List.{length-map}
use Rattle.dense_blocks.specs.declared.block.Block.{Block}
use Rattle.rising_lists.specs.Rising.{keys, entry, entry_after}
use Rattle.block_rows.proofs.RowLaws.{entry-blocks}
use Rattle.block_rows.proofs.row.Row.with_blocks.Goals as goal

pub with_fresh-requires-clause-full : goal.with_fresh-requires-clause-full
with_fresh-requires-clause-full c =
    let one : Block → ℕ = λ _. 1 in
    ap length (c.in_ok-standing.ensures ∙ ap (map (option_map one)) c.deref.ensures.value)
    ∙ omega (
      arith,
      length-map c.args.blocks.items (option_map one),
      length-map c.args.listed.now (λ s. s.0),
      c.requires.full,
    )

pub returns : goal.returns
returns c = λ q.
    let one : Block → ℕ = λ _. 1 in
    let ks = keys c.args.listed.now in
    entry-blocks c.self.inside.entries c.in_ok-with_fresh.field-0 c.self.inside.larger c.in_ok-with_fresh-2.field-0 ks
    c.args.blocks.items q
    (c.in_ok-with_fresh.ensures q
    ∙ ap (λ es. entry_after ks es (entry c.self.inside.entries q) q)
    (c.in_ok-standing.ensures ∙ ap (map (option_map one)) c.deref.ensures.value))
    (c.in_ok-with_fresh-2.ensures q)
    ∙ ap (λ r. entry_after ks c.args.blocks.items (entry r q) q) c.self.view_is
