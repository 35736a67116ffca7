use Rattle.sheaf_run.proofs.ServingLaws.{answer-progress}
use Rattle.sheaf_run.proofs.session.Session.answer.Goals as goal

pub returns-clause-progress : goal.returns-clause-progress
returns-clause-progress c = λ scripts start i comes h.
    answer-progress scripts start c.args.client i c.args.query.now c.in_ok-r.r c.args.self.now _ c.reduce.new.self
    c.reply.new.self _ c.push.new.self.items c.push-2.new.self.items c.self.view_is c.in_ok-push.ensures.items
    c.in_ok-reduce.ensures.reduced c.in_ok-reduce.ensures.known c.in_ok-r.ensures.right c.in_ok-r.ensures.same
    c.self-2.view_is c.in_ok-push-2.ensures.items comes h
