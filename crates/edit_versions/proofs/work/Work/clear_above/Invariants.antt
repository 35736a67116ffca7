use Rattle.std.proofs.Common.{take}
use Rattle.edit_versions.specs.Works.{Puts, is_to, zero_at}
use Rattle.edit_versions.proofs.work.Work.clear_above.Given as goal

abbrev pub invariant-loop-t : goal.invariant-loop-t
invariant-loop-t l = Puts l.c (is_to (take l.t-index l.t-items) l.s) (zero_at l.initial.self.stalks.items)
    l.initial.self l.self
