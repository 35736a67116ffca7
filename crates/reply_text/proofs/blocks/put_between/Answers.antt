use Rattle.std.proofs.Common.{◌≡◌, ◌++◌, ap, ◌∙◌, arith, subst}
use Rattle.reply_text.specs.Parts.{entries_words}
use Rattle.reply_text.proofs.BlockLines.{first_entries, words-more}
use Rattle.reply_text.proofs.blocks.put_between.Goals as goal

pub loop-i-preserved : goal.loop-i-preserved
loop-i-preserved c =
    words-more c.loop-i.i c.args.block.now c.args.s c.args.t c.args.out.now.items c.loop-i.out.items
    c.put_entries.new.out.items
    c.loop-i.invariant
    (subst (λ row. c.put_entries.new.out.items ≡ c.loop-i.out.items ++ entries_words row) c.row_between.ensures
    c.in_ok-put_entries.ensures)

pub returns : goal.returns
returns c =
    let done : c.loop-i.i ≡ c.args.t.size = omega arith in
    c.loop-i.invariant
    ∙ ap (λ n. c.args.out.now.items ++ entries_words (first_entries n c.args.block.now c.args.s c.args.t)) done
