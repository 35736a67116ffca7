use Rattle.reduce_step.proofs.LogLaws as log
use Rattle.reduce_step.proofs.laws.steps_are_one_more.Goals as goal

pub returns : goal.returns
returns c = log.steps-more
