use Rattle.std.proofs.Common.{arith}
use Rattle.equivalences.proofs.ImageLaws.{entries-all, entries-more}
use Rattle.equivalences.proofs.images.column.Goals as goal

pub loop-i-preserved : goal.loop-i-preserved
loop-i-preserved c =
    entries-more c.args.block.now c.args.j c.loop-i.i c.row-row.result.now c.loop-i.values.items c.push.new.self.items
    c.loop-i-test.true c.loop-i.invariant c.row-row.ensures.row c.in_ok-push.ensures.items

pub returns : goal.returns
returns c = entries-all c.args.block.now c.args.j c.loop-i.i c.loop-i.values.items (omega arith) c.loop-i.invariant
