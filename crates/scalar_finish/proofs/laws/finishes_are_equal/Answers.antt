use Rattle.scalar_finish.proofs.EndLaws.{finishes_are_equal}
use Rattle.scalar_finish.proofs.laws.finishes_are_equal.Goals as goal

pub returns : goal.returns
returns c = finishes_are_equal
