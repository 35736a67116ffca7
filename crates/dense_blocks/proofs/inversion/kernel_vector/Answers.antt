use Rattle.std.proofs.Common.{arith}
use Rattle.dense_blocks.proofs.InvertingSteps.{kernel_vector-next}
use Rattle.dense_blocks.proofs.inversion.kernel_vector.Goals as goal

pub loop-i-preserved : goal.loop-i-preserved
loop-i-preserved g c =
    kernel_vector-next (g.F.Scalars.ops c.args.f.now) c.args.size c.args.column c.loop-i.i c.args.rows.now
    c.loop-i.v.items c.push.new.self.items c.neg.result
    (omega arith) (omega arith) c.loop-i.invariant c.neg.ensures c.in_ok-push.ensures.items
