use Rattle.std.proofs.Common.{refl}
use Rattle.block_sparse.proofs.ScalarBlocks.{block-scalars, matrix-scalars, none-scalars}
use Rattle.block_sparse.proofs.blocks.Blocks.block_is_over.Goals as goal

pub returns-in-Some : goal.returns-in-Some
returns-in-Some g c =
    let K = g.F.Scalars.ops c.args.f.now in
    let v = c.args.self.now in
    let b = c.in-Some.block.now in (
      λ h. matrix-scalars K v c.args.s c.args.t b c.in-Some.ensures
          (rw c.as_slice.ensures at c.all_scalars.ensures.0 h),
      λ h. c.all_scalars.ensures.1 (rw c.as_slice.ensures (block-scalars K v c.args.s c.args.t b c.in-Some.ensures h)),
    )

pub returns-in-None : goal.returns-in-None
returns-in-None g c = (
  λ h. none-scalars (g.F.Scalars.ops c.args.f.now) c.args.self.now c.args.s c.args.t
      (g.met.F.Scalars.is_field c.args.f.now) c.in-None.ensures,
  λ h. refl,
)
