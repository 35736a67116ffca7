use Rattle.std.proofs.Common.{◌≡◌, ◌++◌, take}
use Rattle.std.specs.List.{flat_map}
use Rattle.reply_text.specs.JoinedMatrices.{block_line}
use Rattle.reply_text.specs.Parts.{lines_text, joined_value}
use Rattle.reply_text.proofs.blocks.put_blocks_from.Given as goal

abbrev pub invariant-loop-t : goal.invariant-loop-t
invariant-loop-t l = l.out.items ≡ l.fn.out.items
    ++ lines_text (flat_map (λ t. block_line l.word (joined_value l.fn.m) l.s t) (take l.t-index l.to))
