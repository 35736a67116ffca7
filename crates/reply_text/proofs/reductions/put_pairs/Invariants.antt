use Rattle.std.proofs.Common.{◌≡◌, ◌++◌, take}
use Rattle.reply_text.specs.Parts.{lines_text}
use Rattle.reply_text.specs.Reductions.{pair_lines}
use Rattle.reply_text.proofs.reductions.put_pairs.Given as goal

abbrev pub invariant-loop-pair : goal.invariant-loop-pair
invariant-loop-pair l = l.out.items ≡ l.fn.out.items ++ lines_text (pair_lines (take l.pair-index l.pairs))
