use Rattle.removals.proofs.ReductionLaws as reduction
use Rattle.removals.proofs.laws.removals_leave_one.Goals as goal

pub returns : goal.returns
returns c = reduction.removals_leave_one
