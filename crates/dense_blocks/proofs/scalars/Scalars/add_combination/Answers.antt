use Rattle.std.proofs.Common.{length, arith}
use Rattle.dense_blocks.proofs.AddingRows.{adds_up-next, adds_up-end}
use Rattle.dense_blocks.proofs.scalars.Scalars.add_combination.Goals as goal

pub loop-k-preserved : goal.loop-k-preserved
loop-k-preserved g c =
    adds_up-next (g.Self.Scalars.ops c.args.self.now) (g.met.Self.Scalars.is_field c.args.self.now)
    (length c.args.target.now) c.args.target.now
    c.args.coefficients.now c.args.rows.now c.loop-k.k-index c.loop-k.target c.loop-k.rest.now c.split_at.result.0.now
    c.split_at.result.1.now
    c.add_scaled.new.target c.loop-k.invariant c.loop-k-test.true c.split_at.ensures.front c.split_at.ensures.back
    c.add_scaled.ensures.sum c.add_scaled.ensures.scalars

pub returns-clause-sum : goal.returns-clause-sum
returns-clause-sum g c =
    adds_up-end (g.Self.Scalars.ops c.args.self.now) (g.met.Self.Scalars.is_field c.args.self.now)
    (length c.args.target.now) c.args.target.now
    c.args.coefficients.now c.args.rows.now c.loop-k.target c.loop-k.rest.now c.loop-k.k-index c.loop-k.invariant
    (omega arith)
