use Rattle.std.proofs.Common.{subst, sym}
use Rattle.block_sparse.specs.Invariants.{AreSizes}
use Rattle.block_sparse.proofs.SizeLaws.{sizes-without}
use Rattle.block_sparse.proofs.live_cells.LiveCells.remove.Goals as goal

pub invariant_of-self : goal.invariant_of-self
invariant_of-self c =
    subst (λ live. AreSizes live c.put.new.self) (sym c.remove_live.ensures)
    (sizes-without c.args.c c.self.inside.live c.self.inside.sizes c.put.new.self c.self.invariant c.put.ensures)
