use Rattle.std.proofs.Common.{take, drop, arith}
use Rattle.sections.proofs.PlaceLaws.{values-all, values-more}
use Rattle.sections.proofs.values.values_at.Goals as goal

pub loop-cochain-preserved : goal.loop-cochain-preserved
loop-cochain-preserved c =
    values-more (λ z. take c.args.size (drop c.args.start z)) c.args.cochains.now c.loop-cochain.cochain-index
    c.cochain-item.result c.loop-cochain.values.items c.push.new.self.items c.in_ok-value.value (omega arith)
    c.cochain-item.is c.loop-cochain.invariant c.in_ok-value.ensures c.in_ok-push.ensures.items

pub returns : goal.returns
returns c =
    values-all (λ z. take c.args.size (drop c.args.start z)) c.args.cochains.now c.loop-cochain.cochain-index
    c.loop-cochain.values.items (omega arith) c.loop-cochain.invariant
