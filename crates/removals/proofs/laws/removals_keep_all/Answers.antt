use Rattle.removals.proofs.ReductionLaws as reduction
use Rattle.removals.proofs.laws.removals_keep_all.Goals as goal

pub returns : goal.returns
returns c = reduction.removals_keep_all
