use Rattle.std.proofs.Common.{◌≡◌, ◌++◌}
use Rattle.reply_text.specs.Parts.{entries_words}
use Rattle.reply_text.proofs.BlockLines.{first_entries}
use Rattle.reply_text.proofs.blocks.put_between.Given as goal

abbrev pub invariant-loop-i : goal.invariant-loop-i
invariant-loop-i l = l.out.items ≡ l.fn.out.items ++ entries_words (first_entries l.i l.block l.s l.t)
