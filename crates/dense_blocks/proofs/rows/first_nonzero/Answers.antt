use Rattle.std.proofs.Common.{get_or, refl, arith}
use Rattle.dense_blocks.proofs.RowSteps.{zeros-next}
use Rattle.dense_blocks.proofs.rows.first_nonzero.Goals as goal

pub loop-i-preserved : goal.loop-i-preserved
loop-i-preserved c =
    zeros-next c.loop-i.i (get_or c.args.v.now c.loop-i.i 0) c.args.v.now (omega arith) c.loop-i.invariant refl
    (omega arith)
