use Rattle.std.proofs.Common.{◌≡◌, ◌∙◌, ◌+◌, sym, subst, ap, ap₂, ◌++◌, get_or, take}
use Rattle.dense_blocks.specs.Vectors.{IsVector}
use Rattle.cochain_vec.specs.Complexes.{total_size}
use Rattle.plain_bases.proofs.PartLaws.{image-next, vector-next}
use Rattle.plain_bases.proofs.coboundary.coboundary.Goals as goal

pub part_at-requires-clause-rows : goal.part_at-requires-clause-rows
part_at-requires-clause-rows g c = λ k d l e. (c.requires.target_fits k d l).rows c.loop-t.t-index _ c.loop-t-test.true
    e

pub loop-t-preserved : goal.loop-t-preserved
loop-t-preserved g c =
    let K = g.F.Scalars.ops c.args.f.now in
    let ts = c.args.target.now in
    let i = c.loop-t.t-index in
    let t = get_or ts i (record { cell = 0; degree = 0; size = 0 }) in
    let kept = c.loop-t.invariant in
    let grown : c.extend_from_slice.new.self.items ≡ c.loop-t.all.items ++ c.in_ok-part.part.items =
    c.in_ok-extend_from_slice.ensures.items ∙ ap (λ p. c.loop-t.all.items ++ p) c.deref.ensures.value in
    record {
      image = grown ∙ ap₂ ◌++◌ kept.image c.in_ok-part.ensures.part
          ∙ sym (image-next K c.args.arrows.now c.args.source.now ts c.args.z.now i _ c.loop-t-test.true);
      vector = subst (IsVector K (total_size (take (i + 1) ts))) (sym grown)
          (vector-next K ts i (record { cell = 0; degree = 0; size = 0 }) c.loop-t.all.items c.in_ok-part.part.items
          c.loop-t-test.true kept.vector c.in_ok-part.ensures.vector);
    }
