use Rattle.equivalence_laws.proofs.BasisLaws as laws
use Rattle.equivalence_laws.proofs.laws.equivalence_carries_bases.Goals as goal

pub returns : goal.returns
returns c = laws.equivalence_carries_bases
