use Rattle.std.proofs.Common.{ap, ◌∙◌, length, arith}
use Rattle.std.specs.List.{flat_map}
use Rattle.std.proofs.lemmas.List.{take_all}
use Rattle.reply_text.specs.JoinedMatrices.{block_line}
use Rattle.reply_text.specs.Parts.{joined_value}
use Rattle.reply_text.proofs.Counting.{take_at}
use Rattle.reply_text.proofs.BlockLines.{lines-count}
use Rattle.reply_text.proofs.blocks.count_between.Goals as goal

pub loop-s-preserved : goal.loop-s-preserved
loop-s-preserved c = λ word.
    lines-count (λ s. flat_map (λ t. block_line word (joined_value c.args.m) s t) c.args.to.now) c.args.from.now
    c.loop-s.s-index _
    c.loop-s.count c.in_ok-count.count _
    (c.loop-s.invariant word) (c.in_ok-count_from.ensures word) c.in_ok-count.ensures
    (take_at c.args.from.now c.loop-s.s-index _ c.loop-s-test.true)

pub returns : goal.returns
returns c = λ word.
    c.loop-s.invariant word
    ∙ ap (λ ss. length (flat_map (λ s. flat_map (λ t. block_line word (joined_value c.args.m) s t) c.args.to.now) ss))
    (take_all c.loop-s.s-index c.args.from.now (omega arith))
