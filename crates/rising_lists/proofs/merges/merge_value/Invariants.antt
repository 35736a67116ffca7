use Rattle.std.proofs.Common.{map, length, ◌-◌, ◌+◌}
use Rattle.rising_lists.specs.Rising.{keys, value_if, strided}
use Rattle.rising_lists.proofs.MergeLaws.{Merging}
use Rattle.rising_lists.proofs.merges.merge_value.Given as goal

abbrev pub invariant-loop-j : goal.invariant-loop-j
invariant-loop-j g l = Merging l.old l.old_values (keys l.listed)
    (map (value_if l.value) (strided l.entries l.start l.step (length l.listed))) l.i l.j l.k l.cells l.values

abbrev pub decreases-loop-j : goal.decreases-loop-j
decreases-loop-j g l = (length l.old - l.i) + (length l.listed - l.j)
