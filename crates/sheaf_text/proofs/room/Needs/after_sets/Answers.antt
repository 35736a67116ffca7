use Rattle.std.proofs.Common.{◌+◌, subst, arith}
use Rattle.std.specs.Prelude.{sum_by}
use Rattle.std.proofs.lemmas.List.{take_all}
use Rattle.sheaf_text.specs.Rooms.{set_coordinates}
use Rattle.sheaf_text.specs.Needs.{AreNeeds}
use Rattle.sheaf_text.proofs.RoomLaws.{sets-next}
use Rattle.sheaf_text.proofs.room.Needs.after_sets.Goals as goal

pub loop-set-preserved : goal.loop-set-preserved
loop-set-preserved c = λ n k h.
    sets-next set_coordinates c.args.sets.now c.loop-set.set-index c.set-item.result n k c.after_set-needs.result
    c.loop-set-test.true c.set-item.is
    (c.after_set-needs.ensures _ _ (c.loop-set.invariant n k h))

pub returns : goal.returns
returns c = λ n k h. subst (λ sets. AreNeeds n (k + sum_by set_coordinates sets) c.loop-set.needs)
    (take_all c.loop-set.set-index c.args.sets.now (omega arith)) (c.loop-set.invariant n k h)
