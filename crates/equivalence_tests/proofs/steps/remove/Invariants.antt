use Rattle.std.proofs.Common.{◌≡◌}
use Rattle.equivalence_tests.proofs.steps.remove.Given as goal

abbrev pub invariant-loop-pair : goal.invariant-loop-pair
invariant-loop-pair g l = record {
  field : l.slot.f ≡ l.initial.slot.f;
  base : l.slot.base ≡ l.initial.slot.base;
}
