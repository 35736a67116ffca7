use Rattle.std.proofs.Common.{refl, sym, subst}
use Rattle.dense_blocks.specs.Blocks.{matrix_of}
use Rattle.dense_blocks.specs.Inverses.{InKernel}
use Rattle.pair_commit.proofs.SlotLaws.{marked-slot}
use Rattle.pair_commit.proofs.slot.Slot.mark.Goals as goal

pub invariant_of-self : goal.invariant_of-self
invariant_of-self g c =
    let s = c.self.inside in
    let b = c.args.block.now in
    let kernel = subst (λ o. InKernel (g.F.Scalars.ops o.f) b.rows (matrix_of b) c.args.kernel.now)
    (sym c.self.view_is) c.requires.kernel in
    marked-slot (g.F.Scalars.ops s.f) (g.met.F.Scalars.is_field s.f) s.base s.present s.log.items s.carried.items
    c.self.invariant c.flag.new.self c.args.s c.args.t b c.args.kernel.now
    (record { live = c.flag.ensures.live; blocks = c.flag.ensures.blocks }) (c.if-stands.ensures.0 refl)
    c.requires.square kernel
