use Rattle.std.proofs.Common.{◌≤◌, ◌<◌, ◌-◌, ℕ, get_or, length}
use Rattle.rising_lists.specs.Rising.{keys}
use Rattle.block_sparse.proofs.comparison.count_listed_below.Given as goal

abbrev pub invariant-loop-low : goal.invariant-loop-low
invariant-loop-low l = record {
  order : l.low ≤ l.high;
  within : l.high ≤ length l.listed;
  below : (i : ℕ) → i < l.low → get_or (keys l.listed) i 0 < l.c;
  from : (i : ℕ) → l.high ≤ i → i < length l.listed → l.c ≤ get_or (keys l.listed) i 0;
}

abbrev pub decreases-loop-low : goal.decreases-loop-low
decreases-loop-low l = l.high - l.low
