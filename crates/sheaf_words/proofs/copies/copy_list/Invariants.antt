use Rattle.std.proofs.Common.{◌≡◌, take}
use Rattle.sheaf_words.proofs.copies.copy_list.Given as goal

abbrev pub invariant-loop-member : goal.invariant-loop-member
invariant-loop-member g l = l.copies.items ≡ take l.member-index l.members
