use Rattle.std.proofs.Common.{sym}
use Rattle.sheaf_run.proofs.ServingLaws.{edit-progress}
use Rattle.sheaf_run.proofs.session.Session.judge.Goals as goal

pub returns-clause-progress : goal.returns-clause-progress
returns-clause-progress c = λ scripts start i comes h.
    edit-progress scripts start c.args.client i c.args.edit.now c.in_ok-verdict.verdict c.args.self.now
    c.edit_verdict.new.self _ c.push.new.self.items c.in_ok-verdict.ensures.judged (sym c.self.view_is)
    c.in_ok-push.ensures.items comes h
