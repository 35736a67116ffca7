use Rattle.equivalence_laws.proofs.CompositionLaws as laws
use Rattle.equivalence_laws.proofs.laws.equivalences_compose.Goals as goal

pub returns : goal.returns
returns c = laws.equivalences_compose
