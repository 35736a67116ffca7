use Rattle.equivalence_laws.proofs.UpdateLaws as laws
use Rattle.equivalence_laws.proofs.laws.operations_give_next.Goals as goal

pub returns : goal.returns
returns c = laws.operations_give_next
