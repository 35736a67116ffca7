use Rattle.std.proofs.Common.{◌≡◌, ◌-◌, ◌∙◌, suc, ap, arith}
use Rattle.cochain_vec.specs.Complexes.{coordinates}
use Rattle.block_complexes.specs.Cochains.{complex_of}
use Rattle.block_sparse.specs.StoredBlocks.{complex_in}
use Rattle.cocycle_bases.proofs.ClassLaws.{homotopy-at, read-vector}
use Rattle.cocycle_bases.proofs.class.primitive_of.Goals as goal

pub apply-requires : goal.apply-requires
apply-requires g c =
    let K = g.F.Scalars.ops c.args.f.now in
    let C = complex_of (complex_in c.args.base.now) in
    let k = c.args.z.now.degree in
    let b = c.member-h.result.now in
    let h = c.requires.equivalence.1.maps.h (k - 1) b c.member-h.ensures in
    let same : suc (k - 1) ≡ k = omega arith in
    let vector = read-vector K b.cols (coordinates C k) c.args.z.now.values.items c.deref.result.now
    c.deref.ensures.value (h.columns_are ∙ ap (coordinates C) same) c.requires.cochain in
    record { size = vector.size; a_scalars = h.scalars; v_scalars = vector.scalars }

pub returns : goal.returns
returns g c =
    let k = c.args.z.now.degree in
    let same : k ≡ suc (k - 1) = omega arith in
    homotopy-at (g.F.Scalars.ops c.args.f.now) c.args.eq.now.h k (k - 1) c.member-h.result.now
    c.args.z.now.values.items c.deref.result.now c.in_ok-primitive.primitive.items c.member-h.ensures same
    c.deref.ensures.value c.in_ok-primitive.ensures.image
