use Rattle.std.proofs.Common.{◌≡◌, ℕ, List, length, take}
use Rattle.std.specs.List.{flat_map}
use Rattle.reply_text.specs.JoinedMatrices.{block_line}
use Rattle.reply_text.specs.Parts.{joined_value}
use Rattle.reply_text.proofs.blocks.count_from.Given as goal

abbrev pub invariant-loop-t : goal.invariant-loop-t
invariant-loop-t l = (word : List ℕ)
    → l.count ≡ length (flat_map (λ t. block_line word (joined_value l.fn.m) l.s t) (take l.t-index l.to))
