use Rattle.std.proofs.Common.{◌≡◌, ◌++◌, take}
use Rattle.pair_commit.proofs.carried.push_copies.Given as goal

abbrev pub invariant-loop-kept : goal.invariant-loop-kept
invariant-loop-kept l = l.copies.items ≡ l.initial.copies.items ++ take l.kept-index l.members
