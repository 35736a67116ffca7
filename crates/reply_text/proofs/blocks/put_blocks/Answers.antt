use Rattle.std.proofs.Common.{◌≡◌, ◌++◌, ◌∙◌, OnOk, ap, subst}
use Rattle.std.specs.List.{flat_map}
use Rattle.reply_text.specs.JoinedMatrices.{block_line}
use Rattle.reply_text.specs.Parts.{lines_text, joined_value}
use Rattle.reply_text.proofs.BlockLines.{lines-capped}
use Rattle.reply_text.proofs.blocks.put_blocks.Goals as goal

pub returns : goal.returns
returns c =
    let word = c.args.word.now in
    let m = joined_value c.args.m in
    let to = c.as_slice-3.result.now in
    subst
    (λ lines. OnOk c.put_blocks_between.result (c.put_blocks_between.new.out.items ≡ c.args.out.now.items
    ++ lines_text lines))
    (ap (flat_map (λ s. flat_map (λ t. block_line word m s t) to)) c.as_slice-2.ensures.value
    ∙ c.in_ok-from.ensures word to
    ∙ lines-capped word m c.as_slice.result.now to
    (c.as_slice.ensures.value ∙ c.in_ok-all.ensures) (c.as_slice-3.ensures.value ∙ c.in_ok-to.ensures))
    c.put_blocks_between.ensures
