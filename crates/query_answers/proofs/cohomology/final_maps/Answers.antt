use Rattle.std.proofs.Common.{List, sym, subst}
use Rattle.block_complexes.specs.BlockComplexes.{BlockComplex}
use Rattle.block_complexes.specs.Cochains.{complex_of}
use Rattle.block_sparse.specs.StoredBlocks.{complex_in}
use Rattle.reduce_step.specs.declared.record.Step.{Step}
use Rattle.reduce_step.specs.Logs.{AreStepsFrom, pairs_of}
use Rattle.equivalence_laws.specs.Composites.{IsCompositeOfPairs}
use Rattle.equivalence_laws.specs.Equivalences.{graded_matrix}
use Rattle.equivalences.specs.Between.{IsEquivalenceOf}
use Rattle.query_answers.proofs.EndingLaws.{split-keeps, own-closed}
use Rattle.query_answers.proofs.FinalLaws.{composable, final-maps}
use Rattle.query_answers.proofs.cohomology.final_maps.Goals as goal

pub of_log-requires : goal.of_log-requires
of_log-requires g c = record {
  complex = c.requires.base_is;
  closed = c.requires.closed;
  steps = (complex_in c.requires.present, c.requires.steps);
}

pub of_log-requires-2 : goal.of_log-requires-2
of_log-requires-2 g c =
    let K = g.F.Scalars.ops c.args.f.now in
    let F = g.met.F.Scalars.is_field c.args.f.now in
    let base = complex_in c.args.base.now in
    let log = c.args.log.now in
    let present = c.requires.present in
    let ending = c.args.ending.now in
    let h = c.requires in
    record {
      complex = (split-keeps K F base log present ending h.base_is h.closed h.steps h.ending_is).block_complex;
      closed = own-closed K F base log present ending h.base_is h.closed h.steps h.ending_is;
      steps = (
        complex_in ending.rest,
        subst (λ (steps : List Step). AreStepsFrom K (complex_in ending.split) steps (complex_in ending.rest))
            (sym c.deref.ensures.value) h.ending_is.steps,
      );
    }

pub compose-requires : goal.compose-requires
compose-requires g c =
    let K = g.F.Scalars.ops c.args.f.now in
    let split = complex_in c.args.ending.now.split in
    let second = c.in_ok-second.second in
    composable K (g.met.F.Scalars.is_field c.args.f.now) c.args.base.now c.args.log.now c.args.ending.now c.requires
    c.in_ok-first.first second c.in_ok-first.ensures.equivalence
    (subst (λ (steps : List Step). (w : BlockComplex) → AreStepsFrom K split steps w
    → IsEquivalenceOf K (complex_of split) (complex_of w) second) c.deref.ensures.value
    c.in_ok-second.ensures.equivalence)

pub returns : goal.returns
returns g c =
    let K = g.F.Scalars.ops c.args.f.now in
    let split = complex_in c.args.ending.now.split in
    let second = c.in_ok-second.second in
    final-maps K (g.met.F.Scalars.is_field c.args.f.now) c.args.base.now c.args.log.now c.args.ending.now c.requires
    c.in_ok-first.first second c.in_ok-first.ensures.equivalence
    (subst (λ (steps : List Step). (w : BlockComplex) → AreStepsFrom K split steps w
    → IsEquivalenceOf K (complex_of split) (complex_of w) second) c.deref.ensures.value
    c.in_ok-second.ensures.equivalence)
    c.in_ok-first.ensures.composite
    (subst (λ (steps : List Step). IsCompositeOfPairs K split (pairs_of steps) (graded_matrix second.pi)
    (graded_matrix second.iota) (graded_matrix second.h)) c.deref.ensures.value c.in_ok-second.ensures.composite)
    c.in_ok-maps.maps c.in_ok-maps.ensures.composite c.in_ok-maps.ensures.equivalence
