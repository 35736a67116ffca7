use Rattle.std.proofs.Common.{take}
use Rattle.incidence_check.specs.Reach.{IsLeastFrom, reaches}
use Rattle.incidence_check.proofs.reach.next_above.Given as goal

abbrev pub invariant-loop-t : goal.invariant-loop-t
invariant-loop-t l = IsLeastFrom (reaches l.c (take l.t-index l.t-items)) l.from l.least
