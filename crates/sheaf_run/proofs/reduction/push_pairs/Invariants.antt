use Rattle.std.proofs.Common.{◌≡◌, ◌++◌, take}
use Rattle.reduce_step.specs.Logs.{pairs_of}
use Rattle.sheaf_run.specs.Sessions.{pair_events}
use Rattle.sheaf_run.proofs.reduction.push_pairs.Given as goal

abbrev pub invariant-loop-step : goal.invariant-loop-step
invariant-loop-step l =
    l.events.items ≡ l.fn.events.items ++ pair_events l.version (pairs_of (take l.step-index l.log))
