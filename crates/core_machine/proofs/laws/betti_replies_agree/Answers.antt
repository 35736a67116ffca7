use Rattle.core_machine.proofs.BettiLaws as laws
use Rattle.core_machine.proofs.laws.betti_replies_agree.Goals as goal

pub returns : goal.returns
returns g c = laws.betti_replies_agree
