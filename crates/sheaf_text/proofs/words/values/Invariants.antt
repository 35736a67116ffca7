use Rattle.std.proofs.Common.{◌≡◌, ◌++◌, length, map}
use Rattle.sheaf_text.specs.Cut.{words, value_of}
use Rattle.sheaf_text.proofs.words.values.Given as goal

abbrev pub invariant-loop-word : goal.invariant-loop-word
invariant-loop-word l = map value_of (words l.text) ≡ l.values.items ++ map value_of (words l.rest)

abbrev pub decreases-loop-word : goal.decreases-loop-word
decreases-loop-word l = length l.rest
