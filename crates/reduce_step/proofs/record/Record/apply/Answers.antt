use Rattle.reduce_step.proofs.record.Record.apply.Goals as goal

pub returns-in-Ok-clause-step_from : goal.returns-in-Ok-clause-step_from
returns-in-Ok-clause-step_from g c = c.in-Ok.ensures.step_from c.into_step.result c.into_step.ensures
