use Rattle.std.proofs.Common.{◌≡◌, ◌++◌, take}
use Rattle.std.specs.List.{flat_map}
use Rattle.reply_text.specs.JoinedMatrices.{block_line}
use Rattle.reply_text.specs.Parts.{lines_text, joined_value}
use Rattle.reply_text.proofs.blocks.put_blocks_between.Given as goal

abbrev pub invariant-loop-s : goal.invariant-loop-s
invariant-loop-s l = l.out.items ≡ l.fn.out.items
    ++ lines_text (flat_map (λ s. flat_map (λ t. block_line l.word (joined_value l.fn.m) s t) l.to)
    (take l.s-index l.from))
