use Rattle.std.proofs.Common.{◌≡◌, subst, sym, arith}
use Rattle.dense_blocks.specs.Vectors.{AllScalars}
use Rattle.dense_blocks.specs.Matrices.{image_of}
use Rattle.dense_blocks.specs.Blocks.{matrix_of}
use Rattle.dense_blocks.proofs.Shapes.{vector-scalars}
use Rattle.dense_blocks.proofs.BlockLaws.{block-row, block_image-next, block_image-all, block_image-vector}
use Rattle.dense_blocks.proofs.operations.apply.Goals as goal

pub dot-requires-clause-u_scalars : goal.dot-requires-clause-u_scalars
dot-requires-clause-u_scalars g c =
    let K : _ = g.F.Scalars.ops c.args.f.now in
    subst (AllScalars K) (sym c.row.ensures.row)
    (vector-scalars K c.args.a.now.cols _ (block-row K c.args.a.now c.loop-i.i c.requires.a_scalars
    c.loop-i-test.true))

pub loop-i-preserved : goal.loop-i-preserved
loop-i-preserved g c =
    block_image-next (g.F.Scalars.ops c.args.f.now) (g.met.F.Scalars.is_field c.args.f.now) c.args.a.now c.args.v.now
    c.loop-i.i c.loop-i.image.items
    c.row.result.now c.push.new.self.items c.dot.result c.loop-i-test.true c.loop-i.invariant c.row.ensures.row
    c.dot.ensures.value c.in_ok-push.ensures.items

pub returns : goal.returns
returns g c =
    let K : _ = g.F.Scalars.ops c.args.f.now in
    let F : _ = g.met.F.Scalars.is_field c.args.f.now in
    let image : c.loop-i.image.items ≡ image_of K (matrix_of c.args.a.now) c.args.v.now =
    block_image-all K F c.args.a.now c.args.v.now c.loop-i.i c.loop-i.image.items (omega arith) c.loop-i.invariant in
    record {
      image = image;
      scalars = subst (AllScalars K) (sym image)
          (vector-scalars K c.args.a.now.rows _
          (block_image-vector K F c.args.a.now c.args.v.now c.requires.a_scalars));
    }
