use Rattle.std.proofs.Common.{◌≡◌, length}
use Rattle.std.specs.List.{list_all}
use Rattle.sheaf_text.specs.Cut.{words}
use Rattle.sheaf_text.specs.Forms.{is_number}
use Rattle.sheaf_text.proofs.words.are_numbers.Given as goal

abbrev pub invariant-loop-word : goal.invariant-loop-word
invariant-loop-word l = list_all is_number (words l.text) ≡ list_all is_number (words l.rest)

abbrev pub decreases-loop-word : goal.decreases-loop-word
decreases-loop-word l = length l.rest
