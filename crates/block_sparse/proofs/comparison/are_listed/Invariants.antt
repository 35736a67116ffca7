use Rattle.std.proofs.Common.{◌≡◌, ◌≢◌, ◌<◌, ℕ, get_or, true}
use Rattle.rising_lists.specs.Rising.{has, keys}
use Rattle.block_sparse.proofs.comparison.are_listed.Given as goal

abbrev pub invariant-loop-cell : goal.invariant-loop-cell
invariant-loop-cell l = (k : ℕ) → k < l.cell-index → get_or l.cells k 0 ≢ l.but
    → has (get_or l.cells k 0) (keys l.listed) ≡ true
