use Rattle.std.proofs.Common.{◌+◌, take, subst, arith}
use Rattle.std.specs.Prelude.{sum_by}
use Rattle.std.proofs.lemmas.List.{take_all}
use Rattle.sheaf_text.specs.Rooms.{large_replies, new_coordinates}
use Rattle.sheaf_text.specs.Needs.{AreNeeds}
use Rattle.sheaf_text.proofs.RoomLaws.{needs-next}
use Rattle.sheaf_text.proofs.room.Needs.after_scripts.Goals as goal

pub loop-script-preserved : goal.loop-script-preserved
loop-script-preserved c = λ n k h.
    let earlier = take c.loop-script.script-index c.args.scripts.now in
    let replies = n + sum_by (sum_by large_replies) earlier in
    let coordinates = k + sum_by (sum_by new_coordinates) earlier in
    needs-next (sum_by large_replies) (sum_by new_coordinates) c.args.scripts.now c.loop-script.script-index
    c.script-item.result n k
    c.after_script-needs.result c.loop-script-test.true c.script-item.is
    (subst (λ script. AreNeeds (replies + sum_by large_replies script)
    (coordinates + sum_by new_coordinates script) c.after_script-needs.result) c.as_slice.ensures
    (c.after_script-needs.ensures replies coordinates (c.loop-script.invariant n k h)))

pub returns : goal.returns
returns c = λ n k h. subst
    (λ scripts. AreNeeds (n + sum_by (sum_by large_replies) scripts) (k + sum_by (sum_by new_coordinates) scripts)
    c.loop-script.needs)
    (take_all c.loop-script.script-index c.args.scripts.now (omega arith)) (c.loop-script.invariant n k h)
