use Rattle.std.proofs.Common.{take}
use Rattle.block_sparse.specs.Grids.{AreSized}
use Rattle.reduce_step.proofs.differences.count_live.Given as goal

abbrev pub invariant-loop-i : goal.invariant-loop-i
invariant-loop-i l = AreSized l.b.live (take l.i l.listed)
