use Rattle.scalar_finish.proofs.SplitLaws.{splits_are_same}
use Rattle.scalar_finish.proofs.laws.splits_are_same.Goals as goal

pub returns : goal.returns
returns c = splits_are_same
