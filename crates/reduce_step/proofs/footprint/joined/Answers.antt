use Rattle.std.proofs.Common.{sym, subst}
use Rattle.rising_lists.specs.Rising.{IsRising, keys}
use Rattle.block_sparse.specs.Grids.{AreSized}
use Rattle.reduce_step.proofs.footprint.joined.Goals as goal

pub grid-requires : goal.grid-requires
grid-requires c = record {
  left_rises = subst (λ ls. IsRising (keys ls)) (sym c.as_slice.ensures) c.requires.left_rises;
  below_rises = subst (λ ls. IsRising (keys ls)) (sym c.as_slice-2.ensures) c.requires.below_rises;
  left_sized = subst (AreSized c.args.b.now.live) (sym c.as_slice.ensures) c.requires.left_sized;
  below_sized = subst (AreSized c.args.b.now.live) (sym c.as_slice-2.ensures) c.requires.below_sized;
}
