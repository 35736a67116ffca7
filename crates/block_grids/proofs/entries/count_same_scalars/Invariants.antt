use Rattle.std.proofs.Common.{◌<◌, ◌≤◌, ℕ, length, get_or}
use Rattle.block_grids.specs.Joined.{IsSameEntry}
use Rattle.block_grids.proofs.entries.count_same_scalars.Given as goal

abbrev pub invariant-loop-i : goal.invariant-loop-i
invariant-loop-i l = record {
  within : l.at ≤ length l.line.cells;
  passed : (a : ℕ) → a < l.at → l.i < length l.left → get_or l.line.cells a 0 < (get_or l.left l.i (0, 0)).0;
  same : (k : ℕ) → k < l.i → IsSameEntry l.line l.left l.there k;
}
