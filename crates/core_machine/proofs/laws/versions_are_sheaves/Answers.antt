use Rattle.core_machine.proofs.SheafLaws as laws
use Rattle.core_machine.proofs.laws.versions_are_sheaves.Goals as goal

pub returns : goal.returns
returns g c = laws.versions_are_sheaves
