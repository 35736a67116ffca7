use Rattle.std.proofs.Common.{sym, ap, ◌∙◌, subst}
use Rattle.rising_lists.specs.Rising.{has, keys}
use Rattle.block_sparse.specs.Grids.{AreSized}
use Rattle.sheaf_bench.proofs.merges.put_grid.Goals as goal

pub set_grid-requires-clause-left_sized : goal.set_grid-requires-clause-left_sized
set_grid-requires-clause-left_sized c = subst (AreSized c.args.blocks.now.live) (sym c.as_slice.ensures)
    c.requires.joined.left_sized

pub set_grid-requires-clause-below_sized : goal.set_grid-requires-clause-below_sized
set_grid-requires-clause-below_sized c = subst (AreSized c.args.blocks.now.live) (sym c.as_slice-2.ensures)
    c.requires.joined.below_sized

pub set_grid-requires-clause-degrees : goal.set_grid-requires-clause-degrees
set_grid-requires-clause-degrees c = λ s t hs ht.
    c.requires.joined.degrees s t (ap (λ ls. has s (keys ls)) (sym c.as_slice.ensures) ∙ hs)
    (ap (λ ls. has t (keys ls)) (sym c.as_slice-2.ensures) ∙ ht)
