use Rattle.sheaf_run.proofs.RunLaws.{replies_refused}
use Rattle.sheaf_run.proofs.answers.answer.Goals as goal

pub returns-in-Err : goal.returns-in-Err
returns-in-Err g c =
    replies_refused c.args.job c.args.draft c.args.scripts.now c.in-Err.refused.1 c.in-Err.ensures.fault
    c.refuse_draft.ensures
