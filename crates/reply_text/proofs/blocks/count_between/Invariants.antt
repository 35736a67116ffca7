use Rattle.std.proofs.Common.{◌≡◌, ℕ, List, length, take}
use Rattle.std.specs.List.{flat_map}
use Rattle.reply_text.specs.JoinedMatrices.{block_line}
use Rattle.reply_text.specs.Parts.{joined_value}
use Rattle.reply_text.proofs.blocks.count_between.Given as goal

abbrev pub invariant-loop-s : goal.invariant-loop-s
invariant-loop-s l = (word : List ℕ)
    → l.count ≡ length (flat_map (λ s. flat_map (λ t. block_line word (joined_value l.fn.m) s t) l.to)
    (take l.s-index l.from))
