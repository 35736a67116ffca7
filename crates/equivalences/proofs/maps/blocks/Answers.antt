use Rattle.std.proofs.Common.{◌+◌, ◌<◌, ℕ, [], ap, sym, ◌∙◌, subst, length, get_or, arith}
use Rattle.std.proofs.lemmas.List.{length_push, get_or_read}
use Rattle.cochain_vec.specs.Complexes.{coordinates}
use Rattle.block_complexes.specs.Cochains.{complex_of}
use Rattle.block_sparse.specs.StoredBlocks.{complex_in}
use Rattle.equivalences.specs.Rows.{HasShape}
use Rattle.equivalences.proofs.BlockLaws.{block-same}
use Rattle.equivalences.proofs.StoredLaws.{blocks-pushed}
use Rattle.equivalences.proofs.maps.blocks.Goals as goal

pub wide_block-requires-clause-shape : goal.wide_block-requires-clause-shape
wide_block-requires-clause-shape c =
    let k : ℕ = c.loop-k.k in
    let inside : k < length c.args.h.now = omega (arith, c.loop-k-test.true, c.requires.count) in
    let same = get_or_read c.args.h.now k c.index-h-k.result inside c.index-h-k.is [] in
    subst (λ A. HasShape c.coordinates_of-count.result c.coordinates_of-width.result A) (sym same)
    (subst (λ m. HasShape m c.coordinates_of-width.result (get_or c.args.h.now k [])) (sym c.coordinates_of-count.ensures.is)
    (subst (λ n. HasShape (coordinates (complex_of (complex_in c.args.base.now)) k) n (get_or c.args.h.now k []))
    (sym c.coordinates_of-width.ensures.is) (c.requires.shapes k)))

pub loop-k-preserved : goal.loop-k-preserved
loop-k-preserved c =
    let C : ℕ → ℕ = coordinates (complex_of (complex_in c.args.base.now)) in
    let k : ℕ = c.loop-k.k in
    let inside : k < length c.args.h.now = omega (arith, c.loop-k-test.true, c.requires.count) in
    let same = get_or_read c.args.h.now k c.index-h-k.result inside c.index-h-k.is [] in
    record {
      count = ap length c.in_ok-push.ensures.items ∙ length_push c.loop-k.joined.items c.in_ok-block.block
          ∙ ap (λ n. n + 1) c.loop-k.invariant.count;
      blocks = blocks-pushed C (λ k. C (k + 1)) (λ k. get_or c.args.h.now k []) c.loop-k.joined.items
          c.push.new.self.items c.in_ok-block.block k c.loop-k.invariant.count c.in_ok-push.ensures.items
          c.loop-k.invariant.blocks
          (block-same c.in_ok-block.block c.coordinates_of-count.ensures.is c.coordinates_of-width.ensures.is same
          c.in_ok-block.ensures);
    }
