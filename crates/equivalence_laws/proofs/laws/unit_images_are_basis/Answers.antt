use Rattle.equivalence_laws.proofs.BasisLaws as laws
use Rattle.equivalence_laws.proofs.laws.unit_images_are_basis.Goals as goal

pub returns : goal.returns
returns c = laws.unit_images_are_basis
