use Rattle.std.proofs.Common.{ℕ, ◌+◌, take}
use Rattle.std.specs.Prelude.{sum_by}
use Rattle.sheaf_text.specs.Rooms.{large_replies, new_coordinates}
use Rattle.sheaf_text.specs.Needs.{AreNeeds}
use Rattle.sheaf_text.proofs.room.Needs.after_script.Given as goal

abbrev pub invariant-loop-command : goal.invariant-loop-command
invariant-loop-command l = (n k : ℕ) → AreNeeds n k l.fn.self
    → AreNeeds (n + sum_by large_replies (take l.command-index l.script))
    (k + sum_by new_coordinates (take l.command-index l.script)) l.needs
