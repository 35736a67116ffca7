use Rattle.block_sparse.specs.StoredBlocks.{complex_in}
use Rattle.query_answers.proofs.AnswerLaws.{betti-answer}
use Rattle.query_answers.proofs.EndingLaws.{sizes-dimensions}
use Rattle.query_answers.proofs.numbers.betti_of.Goals as goal

pub returns : goal.returns
returns g c =
    let slot = c.args.slot.now in
    let K = g.F.Scalars.ops slot.f in
    let is = c.now-present.ensures.slot in
    betti-answer K slot c.args.degrees c.in_ok-numbers.numbers
    (sizes-dimensions K (g.met.F.Scalars.is_field slot.f) (complex_in slot.base) slot.log slot.present
    c.args.ending.now is.base_is c.requires.closed is.steps c.requires.ending c.args.degrees c.in_ok-numbers.numbers
    c.in_ok-numbers.ensures)
