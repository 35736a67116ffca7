use Rattle.cochain_vec.specs.Complexes.{coordinates}
use Rattle.block_complexes.specs.Cochains.{complex_of}
use Rattle.block_sparse.specs.StoredBlocks.{complex_in}
use Rattle.equivalence_laws.proofs.CompositeLaws.{complex_fits}
use Rattle.cocycle_bases.proofs.ClassLaws.{has_class, image-at, read-vector}
use Rattle.cocycle_bases.proofs.class.class_of.Goals as goal

pub apply-requires : goal.apply-requires
apply-requires g c =
    let K = g.F.Scalars.ops c.args.f.now in
    let k = c.args.z.now.degree in
    let b = c.member-pi.result.now in
    let pi = c.requires.equivalence.1.maps.pi k b c.member-pi.ensures in
    let vector = read-vector K b.cols (coordinates (complex_of (complex_in c.args.base.now)) k)
    c.args.z.now.values.items c.deref.result.now c.deref.ensures.value pi.columns_are c.requires.cocycle.cochain in
    record { size = vector.size; a_scalars = pi.scalars; v_scalars = vector.scalars }

pub returns : goal.returns
returns g c =
    let K = g.F.Scalars.ops c.args.f.now in
    let k = c.args.z.now.degree in
    let v = complex_in c.args.base.now in
    let z = c.args.z.now.values.items in
    let coords = c.in_ok-coords.coords.items in
    has_class K (g.met.F.Scalars.is_field c.args.f.now) (complex_of v)
    (complex_fits K (g.met.F.Scalars.is_field c.args.f.now) v c.requires.base) c.args.eq.now k z coords
    c.in_ok-primitive.primitive.items c.requires.cocycle
    (image-at K c.args.eq.now.pi k c.member-pi.result.now z c.deref.result.now coords c.member-pi.ensures
    c.deref.ensures.value c.in_ok-coords.ensures.image)
    c.in_ok-primitive.ensures
