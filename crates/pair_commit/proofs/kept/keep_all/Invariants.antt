use Rattle.std.proofs.Common.{◌≡◌, map, take}
use Rattle.pair_commit.specs.Commits.{kept_of}
use Rattle.pair_commit.proofs.kept.keep_all.Given as goal

abbrev pub invariant-loop-step : goal.invariant-loop-step
invariant-loop-step l = l.kept.items ≡ map kept_of (take l.step-index l.log)
