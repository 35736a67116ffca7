use Rattle.core_machine.proofs.SoloLaws as laws
use Rattle.core_machine.proofs.laws.solo_orders_are_equal.Goals as goal

pub returns : goal.returns
returns g c = laws.solo_orders_are_equal
