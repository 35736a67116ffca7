use Rattle.scalar_finish.proofs.EndLaws.{finish_is_after}
use Rattle.scalar_finish.proofs.laws.finish_is_after.Goals as goal

pub returns : goal.returns
returns c = finish_is_after
