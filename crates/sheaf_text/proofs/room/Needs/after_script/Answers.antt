use Rattle.std.proofs.Common.{◌+◌, subst, arith}
use Rattle.std.specs.Prelude.{sum_by}
use Rattle.std.proofs.lemmas.List.{take_all}
use Rattle.sheaf_text.specs.Rooms.{large_replies, new_coordinates}
use Rattle.sheaf_text.specs.Needs.{AreNeeds}
use Rattle.sheaf_text.proofs.RoomLaws.{needs-next}
use Rattle.sheaf_text.proofs.room.Needs.after_script.Goals as goal

pub loop-command-preserved : goal.loop-command-preserved
loop-command-preserved c = λ n k h.
    needs-next large_replies new_coordinates c.args.script.now c.loop-command.command-index c.command-item.result n k
    c.after_command-needs.result c.loop-command-test.true c.command-item.is
    (c.after_command-needs.ensures _ _ (c.loop-command.invariant n k h))

pub returns : goal.returns
returns c = λ n k h. subst
    (λ script. AreNeeds (n + sum_by large_replies script) (k + sum_by new_coordinates script) c.loop-command.needs)
    (take_all c.loop-command.command-index c.args.script.now (omega arith)) (c.loop-command.invariant n k h)
