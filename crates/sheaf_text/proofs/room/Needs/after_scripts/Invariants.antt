use Rattle.std.proofs.Common.{ℕ, ◌+◌, take}
use Rattle.std.specs.Prelude.{sum_by}
use Rattle.sheaf_text.specs.Rooms.{large_replies, new_coordinates}
use Rattle.sheaf_text.specs.Needs.{AreNeeds}
use Rattle.sheaf_text.proofs.room.Needs.after_scripts.Given as goal

abbrev pub invariant-loop-script : goal.invariant-loop-script
invariant-loop-script l = (n k : ℕ) → AreNeeds n k l.fn.self
    → AreNeeds (n + sum_by (sum_by large_replies) (take l.script-index l.scripts))
    (k + sum_by (sum_by new_coordinates) (take l.script-index l.scripts)) l.needs
