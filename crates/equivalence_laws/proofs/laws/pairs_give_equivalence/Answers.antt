use Rattle.equivalence_laws.proofs.ReductionLaws as laws
use Rattle.equivalence_laws.proofs.laws.pairs_give_equivalence.Goals as goal

pub returns : goal.returns
returns c = laws.pairs_give_equivalence
