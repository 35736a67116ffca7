use Rattle.equivalence_laws.proofs.CompositeLaws as laws
use Rattle.equivalence_laws.proofs.laws.composite_is_equivalence.Goals as goal

pub returns : goal.returns
returns c = laws.composite_is_equivalence
