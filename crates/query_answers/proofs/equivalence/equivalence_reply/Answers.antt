use Rattle.query_answers.proofs.AnswerLaws.{maps-answer}
use Rattle.query_answers.proofs.equivalence.equivalence_reply.Goals as goal

pub returns : goal.returns
returns g c =
    let slot = c.args.slot.now in
    maps-answer (g.F.Scalars.ops slot.f) slot c.args.degrees c.in_ok-complex.complex c.in_ok-maps.maps
    c.in_ok-complex.ensures c.in_ok-maps.ensures.right c.in_ok-maps.ensures.composite
