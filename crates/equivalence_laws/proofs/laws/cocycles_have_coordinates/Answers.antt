use Rattle.equivalence_laws.proofs.BasisLaws as laws
use Rattle.equivalence_laws.proofs.laws.cocycles_have_coordinates.Goals as goal

pub returns : goal.returns
returns c = laws.cocycles_have_coordinates
