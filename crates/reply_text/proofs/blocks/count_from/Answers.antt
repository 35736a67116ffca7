use Rattle.std.proofs.Common.{ap, ◌∙◌, length, arith}
use Rattle.std.specs.List.{flat_map}
use Rattle.std.proofs.lemmas.List.{take_all}
use Rattle.reply_text.specs.JoinedMatrices.{block_line}
use Rattle.reply_text.specs.Parts.{joined_value}
use Rattle.reply_text.proofs.Counting.{take_at}
use Rattle.reply_text.proofs.BlockLines.{lines-count}
use Rattle.reply_text.proofs.blocks.count_from.Goals as goal

pub loop-t-preserved : goal.loop-t-preserved
loop-t-preserved c = λ word.
    lines-count (λ t. block_line word (joined_value c.args.m) c.args.s t) c.args.to.now c.loop-t.t-index _
    c.loop-t.count c.in_ok-count.count c.block_count.result
    (c.loop-t.invariant word) (c.block_count.ensures word) c.in_ok-count.ensures
    (take_at c.args.to.now c.loop-t.t-index _ c.loop-t-test.true)

pub returns : goal.returns
returns c = λ word.
    c.loop-t.invariant word
    ∙ ap (λ ts. length (flat_map (λ t. block_line word (joined_value c.args.m) c.args.s t) ts))
    (take_all c.loop-t.t-index c.args.to.now (omega arith))
