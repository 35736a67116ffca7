-- One block more, and its image written into the sum.
use Rattle.std.proofs.Common.{◌≡◌, ◌∙◌, ap, ap₂, sym, subst, length, rules}
use Rattle.std.proofs.lemmas.List.{take_at, length-map}
use Rattle.dense_blocks.specs.Vectors.{AllScalars, plus, multiple}
use Rattle.dense_blocks.specs.Matrices.{image_of}
use Rattle.dense_blocks.specs.Blocks.{matrix_of}
use Rattle.dense_blocks.proofs.Shapes.{to_vector, vector-size}
use Rattle.dense_blocks.proofs.VectorLaws.{plus-vector, plus-zeros, multiple-one}
use Rattle.dense_blocks.proofs.MatrixLaws.{zero_matrix-image_of}
use Rattle.cochain_vec.specs.Complexes.{value_at}
use Rattle.cochain_vec.proofs.CoboundaryLaws.{image_of-rows}
use Rattle.block_complexes.specs.BlockComplexes.{size_of}
use Rattle.block_sparse.specs.StoredBlocks.{matrix}
use Rattle.block_complexes.specs.Cochains.{of_degree}
use Rattle.block_sparse.proofs.ScalarBlocks.{block-rows, matrix-none, value-scalars}
use Rattle.block_sparse.proofs.StoredLaws.{standing-scalars}
use Rattle.block_sparse.proofs.blocks.Blocks.add_image.Goals as goal

pub apply-requires-clause-a_scalars : goal.apply-requires-clause-a_scalars
apply-requires-clause-a_scalars g c =
    standing-scalars (g.F.Scalars.ops c.args.f.now) c.args.self.now c.requires.scalars c.args.s c.args.t
    c.in-Some.block.now c.in-Some.ensures

pub apply-requires-clause-v_scalars : goal.apply-requires-clause-v_scalars
apply-requires-clause-v_scalars g c =
    let K = g.F.Scalars.ops c.args.f.now in
    let k = c.args.starts.now.degree in
    let z = c.args.z.now in
    subst (AllScalars K) (sym (c.value_of.ensures.value ∙ ap (λ live. value_at (of_degree k live) z c.args.s)
    c.live.ensures.live))
    (value-scalars K (of_degree k c.args.self.now.live) z c.args.s c.requires.cochain)

pub add_scaled-requires-clause-sizes : goal.add_scaled-requires-clause-sizes
add_scaled-requires-clause-sizes g c =
    ap length (c.deref.ensures.value ∙ c.in_ok-image.ensures.image) ∙ length-map (matrix_of c.in-Some.block.now) _
    ∙ block-rows (g.F.Scalars.ops c.args.f.now) c.args.self.now c.args.s c.args.t c.in-Some.block.now c.in-Some.ensures
    ∙ sym (ap length c.deref_mut.ensures.value ∙ c.requires.sum.size)

pub returns-in_ok-image-clause-sum : goal.returns-in_ok-image-clause-sum
returns-in_ok-image-clause-sum g c =
    let K = g.F.Scalars.ops c.args.f.now in
    let F = g.met.F.Scalars.is_field c.args.f.now in
    let v = c.args.self.now in
    let k = c.args.starts.now.degree in
    let n = size_of v.live c.args.t in
    let A = matrix v c.args.s c.args.t in
    let x = value_at (of_degree k v.live) c.args.z.now c.args.s in
    let old = c.args.sum.now.items in
    let new = c.add_scaled.new.target in
    let rows : length A ≡ n = ap length (sym c.in-Some.ensures.is_matrix)
    ∙ block-rows K v c.args.s c.args.t c.in-Some.block.now c.in-Some.ensures in
    let shape = image_of-rows K F n A x rows in
    let image : c.deref.result.now ≡ image_of K A x =
    c.deref.ensures.value ∙ c.in_ok-image.ensures.image
    ∙ ap₂ (image_of K) c.in-Some.ensures.is_matrix (c.value_of.ensures.value
    ∙ ap (λ live. value_at (of_degree k live) c.args.z.now c.args.s) c.live.ensures.live) in
    let is : new ≡ plus K old (image_of K A x) =
    c.add_scaled.ensures.sum ∙ ap₂ (plus K) c.deref_mut.ensures.value (ap (multiple K 1) image
    ∙ multiple-one K F n (image_of K A x) shape) in
    let size : length new ≡ n = ap length is ∙ vector-size K n (plus K old (image_of K A x))
    (plus-vector K F n old (image_of K A x) (to_vector K n old c.requires.sum) shape) in
    let len : c.args.sum.now.len ≡ length old = search rules in
    take_at new _ c.args.sum.now.len (size ∙ sym c.requires.sum.size ∙ sym len) ∙ is

pub returns-in_default-clause-sum : goal.returns-in_default-clause-sum
returns-in_default-clause-sum g c =
    let K = g.F.Scalars.ops c.args.f.now in
    let F = g.met.F.Scalars.is_field c.args.f.now in
    let v = c.args.self.now in
    let n = size_of v.live c.args.t in
    let x = value_at (of_degree c.args.starts.now.degree v.live) c.args.z.now c.args.s in
    let old = c.args.sum.now.items in
    sym (ap (λ A. plus K old (image_of K A x)) (matrix-none K v c.args.s c.args.t c.in_default.ensures)
    ∙ ap (plus K old) (zero_matrix-image_of K F n (size_of v.live c.args.s) x)
    ∙ plus-zeros K F n old (to_vector K n old c.requires.sum))
