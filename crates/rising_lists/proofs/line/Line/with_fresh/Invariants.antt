use Rattle.std.proofs.Common.{length, ◌-◌, ◌+◌}
use Rattle.std.specs.Vec.Iter.{into_iter_items}
use Rattle.rising_lists.specs.Rising.{keys}
use Rattle.rising_lists.proofs.MergeLaws.{Merged}
use Rattle.rising_lists.proofs.line.Line.with_fresh.Given as goal

abbrev pub invariant-loop-i : goal.invariant-loop-i
invariant-loop-i g l = Merged l.old l.self-inside.values.items (keys l.listed) l.fn.fresh.items (into_iter_items l.left)
    l.i l.j l.cells.items l.values.items

abbrev pub decreases-loop-i : goal.decreases-loop-i
decreases-loop-i g l = (length l.old - l.i) + (length l.listed - l.j)
