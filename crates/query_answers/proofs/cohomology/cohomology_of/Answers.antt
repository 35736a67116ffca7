use Rattle.std.proofs.Common.{subst, subst₂, sym}
use Rattle.block_complexes.specs.BlockComplexes.{IsBlockComplex}
use Rattle.block_complexes.specs.Cochains.{complex_of}
use Rattle.block_sparse.specs.StoredBlocks.{StoredBlocks, complex_in}
use Rattle.equivalence_laws.specs.Bases.{unit_images}
use Rattle.equivalence_laws.specs.Equivalences.{graded_matrix}
use Rattle.cocycle_bases.specs.Bases.{AreBases, AreGradedCochains}
use Rattle.query_answers.specs.Endings.{IsWholeReduction, AreFinalMaps}
use Rattle.query_answers.proofs.AnswerLaws.{cohomology-is}
use Rattle.query_answers.proofs.EndingLaws.{rest-is, rest-no_block}
use Rattle.query_answers.proofs.MapLaws.{at_parts, at_slot}
use Rattle.query_answers.proofs.cohomology.cohomology_of.Goals as goal

pub final_maps-requires : goal.final_maps-requires
final_maps-requires g c =
    let slot = c.args.slot.now in
    let ops = g.F.Scalars.ops in
    let is = c.now-present.ensures.slot in
    at_parts ops slot c.field-f.result c.base-base.result.now c.log.result.now c.field-f.ensures c.base-base.ensures
    c.log.ensures (λ f v log. IsWholeReduction (ops f) v log c.args.ending.now) (record {
      base_is = is.base_is;
      closed = c.requires.closed;
      present = slot.present;
      steps = is.steps;
      ending_is = c.requires.ending;
    })

pub bases-requires : goal.bases-requires
bases-requires g c =
    let slot = c.args.slot.now in
    let ops = g.F.Scalars.ops in
    let K = ops slot.f in
    let F = g.met.F.Scalars.is_field slot.f in
    let is = c.now-present.ensures.slot in
    let base = complex_in slot.base in
    let ending = c.args.ending.now in
    record {
      base = subst₂ (λ f (v : StoredBlocks). IsBlockComplex (ops f) (complex_in v)) (sym c.field-f.ensures)
          (sym c.base-base.ensures) is.base_is;
      rest = subst (λ f. IsBlockComplex (ops f) (complex_in ending.rest)) (sym c.field-f.ensures)
          (rest-is K F base slot.log slot.present ending is.base_is c.requires.closed is.steps c.requires.ending);
      no_block = rest-no_block K F base slot.log slot.present ending is.base_is c.requires.closed is.steps
          c.requires.ending;
      equivalence = c.in_ok-maps.ensures.equivalence;
    }

pub returns : goal.returns
returns g c =
    let slot = c.args.slot.now in
    let ops = g.F.Scalars.ops in
    let is = c.now-present.ensures.slot in
    let ending = c.args.ending.now in
    let maps = c.in_ok-maps.maps in
    let bases = c.in_ok-bases.bases in
    cohomology-is (ops slot.f) slot ending (record { maps = maps; bases = bases })
    (g.met.F.Scalars.is_field slot.f) is.base_is c.requires.closed is.steps c.requires.ending
    (at_slot ops slot c.field-f.result c.base-base.result.now c.log.result.now c.field-f.ensures c.base-base.ensures
    c.log.ensures (λ f v log. AreFinalMaps (ops f) v log ending maps) c.in_ok-maps.ensures)
    c.in_ok-bases.ensures.count
    (subst (λ f. AreGradedCochains (unit_images (ops f) (complex_of (complex_in ending.rest))
    (graded_matrix maps.iota)) bases.items) c.field-f.ensures c.in_ok-bases.ensures.images)
    (subst₂ (λ f (v : StoredBlocks). AreBases (ops f) (complex_of (complex_in v)) bases.items) c.field-f.ensures
    c.base-base.ensures c.in_ok-bases.ensures.bases)
