use Rattle.std.proofs.Common.{◌≡◌, ◌≤◌, ℕ, take, drop, length}
use Rattle.std.specs.Option.{unwrap_or}
use Rattle.rising_lists.specs.Rising.{look, keys, line_of}
use Rattle.block_rows.proofs.rows.Rows.install.Given as goal

abbrev pub invariant-loop-row : goal.invariant-loop-row
invariant-loop-row l = record {
  cells : l.self.cells ≡ l.initial.self.cells;
  some : length l.rows.items ≤ length l.listed;
  left : l.rows.items ≡ take (length l.rows.items) l.initial.rows.items;
  lines : (k : ℕ) → line_of l.self k
      ≡ unwrap_or (look k (drop (length l.rows.items) (keys l.listed))
      (drop (length l.rows.items) l.initial.rows.items)) (line_of l.initial.self k);
}

abbrev pub decreases-loop-row : goal.decreases-loop-row
decreases-loop-row l = goal.left-loop-row l
