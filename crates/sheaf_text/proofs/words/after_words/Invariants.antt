use Rattle.std.proofs.Common.{◌≡◌, drop}
use Rattle.sheaf_text.specs.Cut.{words}
use Rattle.sheaf_text.proofs.words.after_words.Given as goal

abbrev pub invariant-loop-i : goal.invariant-loop-i
invariant-loop-i l = words l.rest ≡ drop l.i (words l.text)
