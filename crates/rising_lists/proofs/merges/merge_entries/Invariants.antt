use Rattle.std.proofs.Common.{map, length, ◌-◌, ◌+◌}
use Rattle.rising_lists.specs.Rising.{keys, nonzero_entry}
use Rattle.rising_lists.proofs.MergeLaws.{Merging}
use Rattle.rising_lists.proofs.merges.merge_entries.Given as goal

abbrev pub invariant-loop-j : goal.invariant-loop-j
invariant-loop-j l =
    Merging l.old l.old_values (keys l.listed) (map nonzero_entry l.entries) l.i l.j l.k l.cells l.values

abbrev pub decreases-loop-j : goal.decreases-loop-j
decreases-loop-j l = (length l.old - l.i) + (length l.listed - l.j)
