use Rattle.core_machine.proofs.ReplyLaws as laws
use Rattle.core_machine.proofs.laws.right_for_start_is_right.Goals as goal

pub returns : goal.returns
returns g c K s v r query reply field reduction complex sheaf right =
    laws.right-for K s v r query reply field reduction (record { complex = complex; sheaf = sheaf }) right
