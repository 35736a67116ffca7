use Rattle.equivalence_laws.proofs.ReductionLaws as laws
use Rattle.equivalence_laws.proofs.laws.pairs_have_composite.Goals as goal

pub returns : goal.returns
returns c = laws.pairs_have_composite
