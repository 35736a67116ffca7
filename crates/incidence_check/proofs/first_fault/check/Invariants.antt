use Rattle.std.proofs.Common.{◌≡◌, ℕ, ◌<◌, [], None}
use Rattle.incidence_check.specs.Incidences.{edge_fault}
use Rattle.incidence_check.specs.Answers.{pair_faults}
use Rattle.incidence_check.proofs.first_fault.check.Given as goal

abbrev pub invariant-loop-t : goal.invariant-loop-t
invariant-loop-t l = (k : ℕ) → k < l.t → edge_fault l.c k ≡ None

abbrev pub invariant-loop-s : goal.invariant-loop-s
invariant-loop-s l = (k : ℕ) → k < l.s → pair_faults l.c k ≡ []
