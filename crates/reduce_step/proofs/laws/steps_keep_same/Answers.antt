use Rattle.reduce_step.proofs.LogLaws as log
use Rattle.reduce_step.proofs.laws.steps_keep_same.Goals as goal

pub returns : goal.returns
returns c = log.steps-same
