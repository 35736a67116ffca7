use Rattle.std.proofs.Common.{ℕ, ap, ◌∙◌, arith}
use Rattle.std.proofs.lemmas.List.{length-map}
use Rattle.rising_lists.specs.Rising.{keys, entry, entry_after}
use Rattle.block_rows.proofs.RowLaws.{entry-none}
use Rattle.block_rows.proofs.row.without.Goals as goal

pub returns : goal.returns
returns c = λ q.
    let ks = keys c.args.listed.now in
    let n : ℕ = c.loop-cell._cell-index in
    let old = entry c.args.blocks.now q in
    c.in_ok-others.ensures q
    ∙ ap (λ es. entry_after ks es old q) c.loop-cell.invariant
    ∙ entry-none ks n q old (omega (arith, length-map c.args.listed.now (λ s. s.0)))
