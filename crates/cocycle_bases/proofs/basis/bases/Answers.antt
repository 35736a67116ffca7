use Rattle.std.proofs.Common.{ℕ, List, Vec}
use Rattle.cochain_vec.specs.declared.cochain.Cochain.{Cochain}
use Rattle.cochain_vec.specs.Cohomology.{IsBasis}
use Rattle.block_complexes.specs.Cochains.{complex_of}
use Rattle.block_sparse.specs.StoredBlocks.{complex_in}
use Rattle.equivalence_laws.specs.Bases.{unit_images}
use Rattle.equivalence_laws.specs.Equivalences.{graded_matrix}
use Rattle.equivalences.specs.CochainLists.{AreCochains, values_of}
use Rattle.cocycle_bases.proofs.GradedLaws.{count-more, each-more}
use Rattle.cocycle_bases.proofs.basis.bases.Goals as goal

pub loop-k-preserved : goal.loop-k-preserved
loop-k-preserved g c =
    let now = c.loop-k.bases.items in
    let images : ℕ → List (List ℕ) = unit_images (g.F.Scalars.ops c.args.f.now)
    (complex_of (complex_in c.args.rest.now)) (graded_matrix c.args.eq.now.iota) in
    record {
      count = count-more now c.push.new.self.items c.in_ok-basis.basis c.loop-k.k c.loop-k.invariant.count
          c.in_ok-push.ensures.items;
      images = each-more (λ j zs. AreCochains j (images j) zs.items) c.loop-k.k now c.push.new.self.items
          c.in_ok-basis.basis c.loop-k.invariant.count c.loop-k.invariant.images c.in_ok-basis.ensures.images
          c.in_ok-push.ensures.items;
      bases = each-more
          (λ j zs. IsBasis (g.F.Scalars.ops c.args.f.now) (complex_of (complex_in c.args.base.now)) j
          (values_of zs.items)) c.loop-k.k now c.push.new.self.items c.in_ok-basis.basis c.loop-k.invariant.count
          c.loop-k.invariant.bases c.in_ok-basis.ensures.basis c.in_ok-push.ensures.items;
    }
