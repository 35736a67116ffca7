use Rattle.std.proofs.Common.{◌≡◌, ◌<◌, ◌∙◌, ◌++◌, ℕ, List, length, take, drop, get_or, refl, sym, ap, ap₂, subst}
use Rattle.std.proofs.Common.{arith}
use Rattle.std.proofs.lemmas.List.{get_or_default, length-map, take_at}
use Rattle.dense_blocks.specs.Vectors.{AllScalars, IsVector, plus, multiple, zeros}
use Rattle.dense_blocks.proofs.Shapes.{from_vector}
use Rattle.dense_blocks.proofs.VectorLaws.{zeros-vector}
use Rattle.cochain_vec.specs.declared.cochain.Cochain.{Cochain}
use Rattle.equivalences.specs.CochainLists.{values_of}
use Rattle.sections.proofs.ExtensionLaws.{each-cochain}
use Rattle.sections.proofs.PlaceLaws.{coordinates-at}
use Rattle.sections.proofs.SumLaws.{sum-more}
use Rattle.sections.proofs.values.combination.Goals as goal

pub loop-i-init : goal.loop-i-init
loop-i-init g c =
    let K = g.F.Scalars.ops c.args.f.now in
    let n : ℕ = c.args.size in
    record {
      is = c.in_ok-sum.ensures.items;
      vector = subst (IsVector K n) (sym c.in_ok-sum.ensures.items)
          (from_vector K n (zeros n) (zeros-vector K (g.met.F.Scalars.is_field c.args.f.now) n));
    }

pub add_scaled-requires-clause-sizes : goal.add_scaled-requires-clause-sizes
add_scaled-requires-clause-sizes g c =
    let K = g.F.Scalars.ops c.args.f.now in
    let zs = c.args.cochains.now in
    let z = c.index-cochains-i.result in
    let inside : c.loop-i.i < length zs = omega arith in
    let row : IsVector K c.args.size (get_or zs c.loop-i.i z).values.items =
    each-cochain (IsVector K c.args.size) zs c.requires.cochains c.loop-i.i z inside in
    ap length c.deref.ensures.value ∙ row.size ∙ sym c.loop-i.invariant.vector.size
    ∙ sym (ap length c.deref_mut.ensures.value)

pub add_scaled-requires-clause-row_scalars : goal.add_scaled-requires-clause-row_scalars
add_scaled-requires-clause-row_scalars g c =
    let K = g.F.Scalars.ops c.args.f.now in
    let zs = c.args.cochains.now in
    let z = c.index-cochains-i.result in
    let inside : c.loop-i.i < length zs = omega arith in
    let row : IsVector K c.args.size (get_or zs c.loop-i.i z).values.items =
    each-cochain (IsVector K c.args.size) zs c.requires.cochains c.loop-i.i z inside in
    subst (AllScalars K) (sym c.deref.ensures.value) row.scalars

pub loop-i-preserved : goal.loop-i-preserved
loop-i-preserved g c =
    let K = g.F.Scalars.ops c.args.f.now in
    let zs = c.args.cochains.now in
    let cs = c.args.coefficients.now in
    let i : ℕ = c.loop-i.i in
    let z = get_or zs i c.index-cochains-i.result in
    let now : List ℕ = c.loop-i.sum.items in
    let after : List ℕ = c.add_scaled.new.target in
    let new : List ℕ = take c.loop-i.sum.len (after ++ drop (length after) now) in
    let inside : i < length zs = omega arith in
    let count : length (values_of zs) ≡ length zs = length-map zs (λ (z : Cochain). z.values.items) in
    let more : new ≡ plus K now (multiple K (get_or cs i 0) z.values.items) =
    take_at after (drop (length after) now) c.loop-i.sum.len (omega arith) ∙ c.add_scaled.ensures.sum
    ∙ ap₂ (plus K) c.deref_mut.ensures.value (ap (multiple K (get_or cs i 0)) c.deref.ensures.value) in
    sum-more K (g.met.F.Scalars.is_field c.args.f.now) c.args.size i cs (values_of zs) now new (get_or cs i 0)
    z.values.items (c.requires.coefficients.size ∙ sym count) (omega (arith, inside, count)) c.requires.cochains
    c.loop-i.invariant refl (coordinates-at zs i z inside (get_or_default zs i c.index-cochains-i.result z inside)) more
