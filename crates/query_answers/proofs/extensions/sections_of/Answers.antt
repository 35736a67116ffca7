use Rattle.std.proofs.Common.{List, Vec, Global, length, ap, subst, arith}
use Rattle.cochain_vec.specs.declared.cochain.Cochain.{Cochain}
use Rattle.query_answers.specs.Vectors.{AreVectorsAt}
use Rattle.query_answers.proofs.ExtensionLaws.{sections-answer}
use Rattle.query_answers.proofs.extensions.sections_of.Goals as goal

pub vectors-requires : goal.vectors-requires
vectors-requires g c = omega (arith, ap length c.deref.ensures.value, c.requires.kept.one_each)

pub returns : goal.returns
returns g c =
    let slot = c.args.slot.now in
    let sections = c.in_ok-sections.sections in
    sections-answer (g.F.Scalars.ops slot.f) slot c.args.cohomology.now c.requires.kept sections
    (subst (λ (bases : List (Vec Cochain Global)). AreVectorsAt bases 0 sections) c.deref.ensures.value
    c.in_ok-sections.ensures)
