use Rattle.scalar_finish.proofs.SplitLaws.{split_keeps_all}
use Rattle.scalar_finish.proofs.laws.split_keeps_all.Goals as goal

pub returns : goal.returns
returns c = split_keeps_all
