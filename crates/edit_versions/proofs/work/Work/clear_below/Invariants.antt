use Rattle.std.proofs.Common.{take}
use Rattle.edit_versions.specs.Works.{Puts, is_from, zero_at}
use Rattle.edit_versions.proofs.work.Work.clear_below.Given as goal

abbrev pub invariant-loop-s : goal.invariant-loop-s
invariant-loop-s l = Puts l.c (is_from (take l.s-index l.s-items) l.t) (zero_at l.initial.self.stalks.items)
    l.initial.self l.self
