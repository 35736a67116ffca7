use Rattle.std.proofs.Common.{◌∙◌, ap}
use Rattle.cochain_vec.specs.CochainComplexes.{IsCochainComplex}
use Rattle.block_complexes.specs.BlockComplexes.{BlockComplex, IsBlockComplex}
use Rattle.block_complexes.specs.Cochains.{complex_of}
use Rattle.block_sparse.specs.StoredBlocks.{StoredBlocks, complex_in}
use Rattle.reduce_step.specs.Logs.{AreStepsFrom}
use Rattle.sheaf_words.specs.declared.reply.Maps.{Maps}
use Rattle.query_answers.proofs.MapLaws.{at_parts, slot-maps, maps-right, maps-composite}
use Rattle.query_answers.proofs.equivalence.maps.Goals as goal

pub of_log-requires : goal.of_log-requires
of_log-requires g c =
    let slot = c.args.slot.now in
    let ops = g.F.Scalars.ops in
    let is = c.now-present.ensures.slot in
    let read = at_parts ops slot c.field-f.result c.base-2.result.now c.log.result.now c.field-f.ensures
    c.base-2.ensures c.log.ensures in
    record {
      complex = read (λ f v log. IsBlockComplex (ops f) (complex_in v)) is.base_is;
      closed = read (λ f v log. IsCochainComplex (ops f) (complex_of (complex_in v))) c.requires.closed;
      steps = read (λ f v log. (w : BlockComplex) × AreStepsFrom (ops f) (complex_in v) log w)
          (complex_in slot.present, is.steps);
    }

pub returns-clause-right : goal.returns-clause-right
returns-clause-right g c = λ r is start.
    let slot = c.args.slot.now in
    let e = c.in_ok-e.e in
    let maps : Maps = record { base = c.in_ok-base.base; pi = c.in_ok-pi.pi; iota = c.in_ok-iota.iota; h = c.in_ok-h.h } in
    maps-right (g.F.Scalars.ops slot.f) c.args.degrees slot e maps
    (slot-maps g.F.Scalars.ops slot c.field-f.result c.base-2.result.now c.log.result.now c.field-f.ensures
    c.base-2.ensures c.log.ensures c.args.degrees e c.requires.few c.requires.degrees c.requires.closed
    c.now-present.ensures.slot c.in_ok-e.ensures.composite c.in_ok-e.ensures.equivalence maps
    (c.in_ok-base.ensures ∙ ap (λ (v : StoredBlocks). v.live) c.base.ensures) c.in_ok-pi.ensures c.in_ok-iota.ensures
    c.in_ok-h.ensures)
    r is start

pub returns-clause-composite : goal.returns-clause-composite
returns-clause-composite g c = λ r is start.
    let slot = c.args.slot.now in
    let e = c.in_ok-e.e in
    let maps : Maps = record { base = c.in_ok-base.base; pi = c.in_ok-pi.pi; iota = c.in_ok-iota.iota; h = c.in_ok-h.h } in
    maps-composite (g.F.Scalars.ops slot.f) c.args.degrees slot e maps
    (slot-maps g.F.Scalars.ops slot c.field-f.result c.base-2.result.now c.log.result.now c.field-f.ensures
    c.base-2.ensures c.log.ensures c.args.degrees e c.requires.few c.requires.degrees c.requires.closed
    c.now-present.ensures.slot c.in_ok-e.ensures.composite c.in_ok-e.ensures.equivalence maps
    (c.in_ok-base.ensures ∙ ap (λ (v : StoredBlocks). v.live) c.base.ensures) c.in_ok-pi.ensures c.in_ok-iota.ensures
    c.in_ok-h.ensures)
    r is start (g.met.F.Scalars.is_field slot.f)
