use Rattle.std.proofs.Common.{◌≡◌, take}
use Rattle.pair_commit.proofs.log.copy_log.Given as goal

abbrev pub invariant-loop-step : goal.invariant-loop-step
invariant-loop-step l = l.copy.items ≡ take l.step-index l.log
