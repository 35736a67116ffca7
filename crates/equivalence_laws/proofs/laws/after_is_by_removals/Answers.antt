use Rattle.equivalence_laws.proofs.ReductionLaws as laws
use Rattle.equivalence_laws.proofs.laws.after_is_by_removals.Goals as goal

pub returns : goal.returns
returns c = laws.after_is_by_removals
