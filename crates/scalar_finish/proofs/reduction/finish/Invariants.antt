use Rattle.block_sparse.specs.StoredBlocks.{complex_in}
use Rattle.scalar_finish.specs.Beginnings.{IsOnTheWay}
use Rattle.scalar_finish.proofs.reduction.finish.Given as goal

abbrev pub invariant-loop-x : goal.invariant-loop-x
invariant-loop-x g l =
    IsOnTheWay (g.F.Scalars.ops l.f) (complex_in l.fn.b) l.x-index l.log.items (complex_in l.rest)
