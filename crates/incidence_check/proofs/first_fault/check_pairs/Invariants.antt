use Rattle.std.proofs.Common.{◌≡◌, ℕ, ◌-◌, ◌<◌, ◌≤◌, length, None}
use Rattle.incidence_check.specs.Answers.{pair_fault}
use Rattle.incidence_check.proofs.first_fault.check_pairs.Given as goal

abbrev pub invariant-loop-u : goal.invariant-loop-u
invariant-loop-u l = record {
  within : l.from ≤ length l.c.dims;
  before : (u : ℕ) → u < l.from → pair_fault l.c l.s u ≡ None;
}

abbrev pub decreases-loop-u : goal.decreases-loop-u
decreases-loop-u l = length l.c.dims - l.from
