use Rattle.query_answers.proofs.AnswerLaws.{reduced-answer}
use Rattle.query_answers.proofs.reduction.reduced_reply.Goals as goal

pub returns : goal.returns
returns g c =
    let slot = c.args.slot.now in
    reduced-answer (g.F.Scalars.ops slot.f) slot c.args.degrees c.in_ok-reply.reply c.in_ok-reply.ensures
