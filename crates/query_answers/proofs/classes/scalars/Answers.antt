use Rattle.std.proofs.Common.{arith}
use Rattle.query_answers.proofs.NumberLaws.{scalars_more, values_more}
use Rattle.query_answers.proofs.classes.scalars.Goals as goal

pub loop-number-preserved : goal.loop-number-preserved
loop-number-preserved g c =
    let numbers = c.args.numbers.now in
    let i = c.loop-number.number-index in
    record {
      scalars = values_more numbers c.loop-number.scalars.items c.push.new.self.items i c.loop-number-test.true
          c.loop-number.invariant.scalars c.in_ok-push.ensures.items;
      below = scalars_more (g.F.Scalars.ops c.args.f.now) numbers i c.loop-number-test.true
          c.loop-number.invariant.below (omega (arith, c.if-number-order.false, c.order-order.ensures));
    }
