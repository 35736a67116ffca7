use Rattle.equivalence_laws.proofs.BlocklessLaws as laws
use Rattle.equivalence_laws.proofs.laws.removals_give_bases.Goals as goal

pub returns : goal.returns
returns c = laws.removals_give_bases
