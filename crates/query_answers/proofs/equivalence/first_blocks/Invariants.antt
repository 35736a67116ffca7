use Rattle.std.proofs.Common.{◌≡◌, take}
use Rattle.query_answers.proofs.equivalence.first_blocks.Given as goal

abbrev pub invariant-loop-block : goal.invariant-loop-block
invariant-loop-block l = l.first.items ≡ take l.block-index l.head
