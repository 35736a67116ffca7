use Rattle.std.proofs.Common.{◌∙◌, ◌++◌, ◌∷◌, [], sym, subst, ap, ap₂, map, length, arith, List, ℕ}
use Rattle.std.proofs.lemmas.List.{map-append}
use Rattle.dense_blocks.specs.Vectors.{AllScalars}
use Rattle.dense_blocks.specs.MatrixFacts.{identity}
use Rattle.dense_blocks.specs.Solutions.{lists}
use Rattle.plain_bases.specs.Parts.{image}
use Rattle.plain_bases.proofs.VecLaws.{unit_is_vector, images-next, images-all}
use Rattle.plain_bases.proofs.columns.columns.Goals as goal

pub coboundary-requires-clause-size : goal.coboundary-requires-clause-size
coboundary-requires-clause-size g c =
    let K = g.F.Scalars.ops c.args.f.now in
    let unit = unit_is_vector K (g.met.F.Scalars.is_field c.args.f.now) c.total_size-n.result c.loop-j.j
    c.loop-j-test.true in
    ap length (c.deref.ensures.value ∙ c.in_ok-cochain.ensures) ∙ unit.size ∙ c.total_size-n.ensures

pub coboundary-requires-clause-z_scalars : goal.coboundary-requires-clause-z_scalars
coboundary-requires-clause-z_scalars g c =
    let K = g.F.Scalars.ops c.args.f.now in
    let unit = unit_is_vector K (g.met.F.Scalars.is_field c.args.f.now) c.total_size-n.result c.loop-j.j
    c.loop-j-test.true in
    subst (AllScalars K) (sym (c.deref.ensures.value ∙ c.in_ok-cochain.ensures)) unit.scalars

pub loop-j-preserved : goal.loop-j-preserved
loop-j-preserved g c =
    let K = g.F.Scalars.ops c.args.f.now in
    let L : List ℕ → List ℕ = image K c.args.arrows.now c.args.source.now c.args.target.now in
    let n = c.total_size-n.result in
    ap lists c.in_ok-push.ensures.items ∙ map-append (λ v. v.items) c.loop-j.all.items (c.in_ok-column.column ∷ [])
    ∙ ap₂ (λ before new. before ++ new ∷ []) c.loop-j.invariant (c.in_ok-column.ensures.image
    ∙ ap L (c.deref.ensures.value ∙ c.in_ok-cochain.ensures))
    ∙ sym (images-next L n c.loop-j.j c.loop-j-test.true)

pub returns-clause-images : goal.returns-clause-images
returns-clause-images g c =
    let K = g.F.Scalars.ops c.args.f.now in
    let L : List ℕ → List ℕ = image K c.args.arrows.now c.args.source.now c.args.target.now in
    c.loop-j.invariant ∙ images-all L c.total_size-n.result c.loop-j.j (omega arith)
    ∙ ap (λ n. map L (identity n)) c.total_size-n.ensures
