use Rattle.std.proofs.Common.{◌≡◌, take}
use Rattle.equivalences.specs.CochainLists.{values_of}
use Rattle.query_answers.proofs.rows.rows.Given as goal

abbrev pub invariant-loop-z : goal.invariant-loop-z
invariant-loop-z l = l.rows.items ≡ values_of (take l.z-index l.cochains)
