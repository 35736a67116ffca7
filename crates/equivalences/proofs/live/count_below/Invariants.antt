use Rattle.std.proofs.Common.{◌≤◌, ◌<◌, ◌-◌, ℕ, get_or, length}
use Rattle.block_complexes.specs.BlockComplexes.{cells}
use Rattle.equivalences.proofs.live.count_below.Given as goal

abbrev pub invariant-loop-low : goal.invariant-loop-low
invariant-loop-low l = record {
  order : l.low ≤ l.high;
  within : l.high ≤ length l.live;
  below : (i : ℕ) → i < l.low → get_or (cells l.live) i 0 < l.c;
  from : (i : ℕ) → l.high ≤ i → i < length l.live → l.c ≤ get_or (cells l.live) i 0;
}

abbrev pub decreases-loop-low : goal.decreases-loop-low
decreases-loop-low l = l.high - l.low
