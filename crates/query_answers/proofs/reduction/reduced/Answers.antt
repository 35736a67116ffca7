use Rattle.std.proofs.Common.{◌∙◌, ◌<◌, All, ap, sym, subst}
use Rattle.block_complexes.specs.BlockComplexes.{IsBlockComplex}
use Rattle.block_complexes.specs.Cochains.{complex_of}
use Rattle.block_sparse.specs.StoredBlocks.{StoredBlocks, complex_in}
use Rattle.reduce_step.specs.Logs.{pairs_of}
use Rattle.query_answers.specs.Degrees.{AreCoboundaryMatrices, HaveCoboundaryShapes}
use Rattle.query_answers.proofs.SlotLaws.{steps-live, reduced-right}
use Rattle.query_answers.proofs.reduction.reduced.Goals as goal

pub coboundary_matrices-requires : goal.coboundary_matrices-requires
coboundary_matrices-requires g c =
    let slot = c.args.slot.now in
    let degrees = c.args.degrees in
    subst (λ (v : StoredBlocks). All (λ l. l.1 < degrees) v.live) (sym c.now-present.ensures.present)
    (steps-live (g.F.Scalars.ops slot.f) (λ l. l.1 < degrees) slot.log (complex_in slot.base)
    (complex_in slot.present) c.now-present.ensures.slot.steps c.requires)

pub returns : goal.returns
returns g c =
    let slot = c.args.slot.now in
    let K = g.F.Scalars.ops slot.f in
    let present = c.now-present.ensures.present in
    let d = c.in_ok-d.d in
    let over = subst (λ (v : StoredBlocks). IsBlockComplex K (complex_in v)) (sym present)
    c.now-present.ensures.slot.present_is in
    reduced-right K c.args.degrees slot
    (record { pairs = c.in_ok-pairs.pairs; live = c.in_ok-live.live; d = d })
    (c.in_ok-pairs.ensures ∙ ap pairs_of c.log.ensures)
    (c.in_ok-live.ensures ∙ ap (λ (v : StoredBlocks). v.live) present)
    (subst (λ (v : StoredBlocks). HaveCoboundaryShapes c.args.degrees (complex_of (complex_in v)) d) present
    c.in_ok-d.ensures.shapes)
    (subst (λ (v : StoredBlocks). AreCoboundaryMatrices K (complex_of (complex_in v)) d) present
    (c.in_ok-d.ensures.matrices K (g.met.F.Scalars.is_field slot.f) over))
