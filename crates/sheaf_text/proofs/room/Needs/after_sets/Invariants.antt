use Rattle.std.proofs.Common.{ℕ, ◌+◌, take}
use Rattle.std.specs.Prelude.{sum_by}
use Rattle.sheaf_text.specs.Rooms.{set_coordinates}
use Rattle.sheaf_text.specs.Needs.{AreNeeds}
use Rattle.sheaf_text.proofs.room.Needs.after_sets.Given as goal

abbrev pub invariant-loop-set : goal.invariant-loop-set
invariant-loop-set l = (n k : ℕ) → AreNeeds n k l.fn.self
    → AreNeeds n (k + sum_by set_coordinates (take l.set-index l.sets)) l.needs
