use Rattle.std.proofs.Common.{List, Vec, Global, length, ap, subst, arith}
use Rattle.cochain_vec.specs.declared.cochain.Cochain.{Cochain}
use Rattle.query_answers.specs.Vectors.{AreVectorsAt}
use Rattle.query_answers.proofs.AnswerLaws.{basis-answer}
use Rattle.query_answers.proofs.classes.basis_of.Goals as goal

pub vectors-requires : goal.vectors-requires
vectors-requires g c =
    omega (arith, c.requires.degree, ap length c.deref.ensures.value, c.requires.kept.one_each)

pub returns : goal.returns
returns g c =
    let slot = c.args.slot.now in
    let k = c.args.k in
    let vectors = c.in_ok-vectors.vectors in
    basis-answer (g.F.Scalars.ops slot.f) slot c.args.cohomology.now c.requires.kept k vectors
    (subst (λ (bases : List (Vec Cochain Global)). AreVectorsAt bases k vectors) c.deref.ensures.value
    c.in_ok-vectors.ensures)
