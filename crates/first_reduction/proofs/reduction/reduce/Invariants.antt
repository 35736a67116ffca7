use Rattle.std.proofs.Common.{◌≡◌, []}
use Rattle.first_reduction.specs.Advances.{IsOnTheWay, work_left}
use Rattle.first_reduction.proofs.reduction.reduce.Given as goal

abbrev pub invariant-pairs : goal.invariant-pairs
invariant-pairs g l =
    (l.slot.f ≡ l.fn.slot.f) × (l.slot.base ≡ l.fn.slot.base) × (l.slot.carried ≡ [])
    × IsOnTheWay (g.F.Scalars.ops l.fn.slot.f) l.fn.slot l.slot

abbrev pub decreases-pairs : goal.decreases-pairs
decreases-pairs g l = work_left l.slot.present
