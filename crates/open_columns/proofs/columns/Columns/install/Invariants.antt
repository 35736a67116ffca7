use Rattle.std.proofs.Common.{◌≡◌, ◌≤◌, ℕ, take, drop, length}
use Rattle.std.specs.Option.{unwrap_or}
use Rattle.rising_lists.specs.Rising.{look, keys, line_of}
use Rattle.open_columns.proofs.columns.Columns.install.Given as goal

abbrev pub invariant-loop-column : goal.invariant-loop-column
invariant-loop-column l = record {
  cells : l.self.cells ≡ l.initial.self.cells;
  some : length l.columns.items ≤ length l.listed;
  left : l.columns.items ≡ take (length l.columns.items) l.initial.columns.items;
  lines : (k : ℕ) → line_of l.self k
      ≡ unwrap_or (look k (drop (length l.columns.items) (keys l.listed))
      (drop (length l.columns.items) l.initial.columns.items)) (line_of l.initial.self k);
}

abbrev pub decreases-loop-column : goal.decreases-loop-column
decreases-loop-column l = goal.left-loop-column l
