use Rattle.std.proofs.Common.{◌≡◌, ◌++◌, map, take}
use Rattle.std.specs.Fmt.{decimal}
use Rattle.reply_text.specs.Parts.{spaced_words}
use Rattle.reply_text.proofs.words.put_entries.Given as goal

abbrev pub invariant-loop-entry : goal.invariant-loop-entry
invariant-loop-entry l = l.out.items ≡ l.fn.out.items ++ spaced_words (map decimal (take l.entry-index l.entries))
