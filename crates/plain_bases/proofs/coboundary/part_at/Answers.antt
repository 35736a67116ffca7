use Rattle.std.proofs.Common.{◌∙◌, sym, subst, ap, cond, eqb, take, List, ℕ, rules}
use Rattle.dense_blocks.specs.Vectors.{IsVector, plus}
use Rattle.dense_blocks.specs.Matrices.{image_of}
use Rattle.dense_blocks.specs.Blocks.{matrix_of}
use Rattle.dense_blocks.proofs.Shapes.{from_vector}
use Rattle.dense_blocks.proofs.VectorLaws.{zeros-vector}
use Rattle.cochain_vec.specs.Complexes.{value_at}
use Rattle.plain_bases.specs.declared.complex.Arrow.{Arrow}
use Rattle.plain_bases.specs.View.{FitsCells}
use Rattle.plain_bases.specs.Parts.{part_at}
use Rattle.plain_bases.proofs.PartLaws.{put_back, part-next}
use Rattle.plain_bases.proofs.coboundary.part_at.Goals as goal

pub loop-arrow-init : goal.loop-arrow-init
loop-arrow-init g c =
    let K = g.F.Scalars.ops c.args.f.now in
    record {
      part = c.in_ok-sum.ensures.items;
      vector = subst (IsVector K c.args.t.size) (sym c.in_ok-sum.ensures.items)
          (from_vector K c.args.t.size _ (zeros-vector K (g.met.F.Scalars.is_field c.args.f.now) c.args.t.size));
    }

pub add_arrow-requires-clause-fits : goal.add_arrow-requires-clause-fits
add_arrow-requires-clause-fits g c =
    subst (FitsCells (g.F.Scalars.ops c.args.f.now) c.args.source.now) (sym c.arrow-item.is)
    (c.requires.fits c.loop-arrow.arrow-index c.arrow-item.result c.loop-arrow-test.true)

pub loop-arrow-preserved : goal.loop-arrow-preserved
loop-arrow-preserved g c =
    let K = g.F.Scalars.ops c.args.f.now in
    let xs = c.args.arrows.now in
    let i = c.loop-arrow.arrow-index in
    let item = c.arrow-item.result in
    let kept = c.loop-arrow.invariant in
    let new = c.add_arrow.new.sum in
    let back = put_back new c.loop-arrow.sum.items c.loop-arrow.sum.len (search rules)
    (c.in_ok-add_arrow.ensures.vector.size ∙ sym kept.vector.size) in
    let with_arrow : List ℕ → Arrow → List ℕ =
    λ before a. cond (eqb a.to c.args.t.cell)
    (plus K before (image_of K (matrix_of a.block) (value_at c.args.source.now c.args.z.now a.from))) before in
    record {
      part =
          back ∙ c.in_ok-add_arrow.ensures.sum ∙ ap (λ before. with_arrow before item) (c.deref_mut.ensures.value
          ∙ kept.part)
          ∙ ap (with_arrow (part_at K (take i xs) c.args.source.now c.args.z.now c.args.t)) c.arrow-item.is
          ∙ sym (part-next K (g.met.F.Scalars.is_field c.args.f.now) xs c.args.source.now c.args.z.now c.args.t i item
          c.loop-arrow-test.true);
      vector = subst (IsVector K c.args.t.size) (sym back) c.in_ok-add_arrow.ensures.vector;
    }
