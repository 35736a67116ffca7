use Rattle.std.proofs.Common.{◌∙◌, sym, subst, ap}
use Rattle.dense_blocks.specs.Vectors.{AllScalars, IsVector}
use Rattle.dense_blocks.specs.Matrices.{image_of}
use Rattle.dense_blocks.specs.Blocks.{matrix_of}
use Rattle.dense_blocks.proofs.Shapes.{from_vector}
use Rattle.dense_blocks.proofs.VectorLaws.{zeros-vector}
use Rattle.dense_blocks.proofs.MatrixLaws.{image_of-nil}
use Rattle.dense_blocks.proofs.BlockLaws.{block-matrix, block_image-vector}
use Rattle.plain_bases.proofs.PartLaws.{value_scalars}
use Rattle.plain_bases.proofs.coboundary.arriving.Goals as goal

pub apply-requires-clause-v_scalars : goal.apply-requires-clause-v_scalars
apply-requires-clause-v_scalars g c =
    let K = g.F.Scalars.ops c.args.f.now in
    subst (AllScalars K) (sym c.in-Some.ensures.found)
    (value_scalars K (g.met.F.Scalars.is_field c.args.f.now) c.args.source.now c.args.z.now c.args.arrow.now.from
    c.requires.size c.requires.z_scalars)

pub returns-in_ok-apply-in-Some-clause-vector : goal.returns-in_ok-apply-in-Some-clause-vector
returns-in_ok-apply-in-Some-clause-vector g c =
    let K = g.F.Scalars.ops c.args.f.now in
    let block = c.args.arrow.now.block in
    subst (IsVector K block.rows) (sym c.in_ok-apply-in-Some.ensures.image)
    (from_vector K block.rows (image_of K (matrix_of block) c.in-Some.value.now)
    (block_image-vector K (g.met.F.Scalars.is_field c.args.f.now) block c.in-Some.value.now
    c.requires.fits.scalars))

pub returns-in_ok-zeros-in-None-clause-image : goal.returns-in_ok-zeros-in-None-clause-image
returns-in_ok-zeros-in-None-clause-image g c =
    let K = g.F.Scalars.ops c.args.f.now in
    let block = c.args.arrow.now.block in
    c.in_ok-zeros-in-None.ensures.items
    ∙ sym (image_of-nil K (g.met.F.Scalars.is_field c.args.f.now) block.rows block.cols (matrix_of block)
    (block-matrix K block c.requires.fits.scalars))
    ∙ ap (image_of K (matrix_of block)) (sym c.in-None.ensures.absent)

pub returns-in_ok-zeros-in-None-clause-vector : goal.returns-in_ok-zeros-in-None-clause-vector
returns-in_ok-zeros-in-None-clause-vector g c =
    let K = g.F.Scalars.ops c.args.f.now in
    let rows = c.args.arrow.now.block.rows in
    subst (IsVector K rows) (sym c.in_ok-zeros-in-None.ensures.items)
    (from_vector K rows _ (zeros-vector K (g.met.F.Scalars.is_field c.args.f.now) rows))
