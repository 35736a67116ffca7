use Rattle.std.proofs.Common.{◌≡◌, take}
use Rattle.reduce_step.specs.Logs.{pairs_of}
use Rattle.query_answers.proofs.reduction.removed_pairs.Given as goal

abbrev pub invariant-loop-step : goal.invariant-loop-step
invariant-loop-step l = l.pairs.items ≡ pairs_of (take l.step-index l.log)
