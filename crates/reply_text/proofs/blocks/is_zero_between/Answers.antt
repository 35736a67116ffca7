use Rattle.std.proofs.Common.{◌≡◌, ◌<◌, ap, sym, ◌∙◌, eqb, true, false, arith, rules}
use Rattle.std.specs.List.{list_all}
use Rattle.reply_text.proofs.BlockLines.{first_entries, zero-more, not-zero}
use Rattle.reply_text.proofs.blocks.is_zero_between.Goals as goal

pub loop-i-preserved : goal.loop-i-preserved
loop-i-preserved c =
    let passed : c.are_zero.result ≡ true = search rules in
    zero-more c.loop-i.i c.args.block.now c.args.s c.args.t c.loop-i.invariant
    (ap (list_all (λ e. eqb e 0)) (sym c.row_between.ensures) ∙ sym c.are_zero.ensures ∙ passed)

pub returns-then-not-are_zero : goal.returns-then-not-are_zero
returns-then-not-are_zero c =
    let failed : c.are_zero.result ≡ false = search rules in
    let inside : c.loop-i.i < c.args.t.size = omega arith in
    sym (not-zero c.loop-i.i c.args.t.size c.args.block.now c.args.s c.args.t inside
    (ap (list_all (λ e. eqb e 0)) (sym c.row_between.ensures) ∙ sym c.are_zero.ensures ∙ failed))

pub returns : goal.returns
returns c =
    let done : c.loop-i.i ≡ c.args.t.size = omega arith in
    sym (ap (λ n. list_all (λ e. eqb e 0) (first_entries n c.args.block.now c.args.s c.args.t)) (sym done)
    ∙ c.loop-i.invariant)
