use Rattle.equivalence_laws.proofs.CompositeLaws as laws
use Rattle.equivalence_laws.proofs.laws.removal_gives_equivalence.Goals as goal

pub returns : goal.returns
returns c = laws.removal_gives_equivalence
