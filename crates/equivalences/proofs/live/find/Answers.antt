use Rattle.std.proofs.Common.{arith}
use Rattle.block_complexes.proofs.LiveLaws.{absent-at}
use Rattle.equivalences.proofs.live.find.Goals as goal
use Rattle.equivalences.proofs.live.find.Goals.{else-at-live-via-then-at-live+else-live-at}
use Rattle.equivalences.proofs.live.find.Goals.{else-at-live-via-else-at-live}

pub returns-else-at-live : goal.returns-else-at-live
returns-else-at-live c =
    absent-at c.args.live.now c.args.c c.count_below-at.result c.requires c.count_below-at.ensures.below
    c.count_below-at.ensures.from
    (elim c.else-at-live.branch [
      | else-at-live-via-then-at-live+else-live-at w ↦ λ l. w.if-live-at.false
      | else-at-live-via-else-at-live w ↦ λ l. absurd (omega (arith, l, w.if-at-live.false))
    ])
