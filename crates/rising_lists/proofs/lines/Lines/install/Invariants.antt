use Rattle.std.proofs.Common.{◌≡◌, ◌≤◌, ℕ, take, drop, length}
use Rattle.std.specs.Option.{unwrap_or}
use Rattle.rising_lists.specs.Rising.{look, keys, line_of}
use Rattle.rising_lists.proofs.lines.Lines.install.Given as goal

abbrev pub invariant-loop-line : goal.invariant-loop-line
invariant-loop-line g l = record {
  cells : l.self.cells ≡ l.initial.self.cells;
  some : length l.lines.items ≤ length l.listed;
  left : l.lines.items ≡ take (length l.lines.items) l.initial.lines.items;
  lines : (k : ℕ) → line_of l.self k
      ≡ unwrap_or (look k (drop (length l.lines.items) (keys l.listed))
      (drop (length l.lines.items) l.initial.lines.items)) (line_of l.initial.self k);
}

abbrev pub decreases-loop-line : goal.decreases-loop-line
decreases-loop-line g l = goal.left-loop-line g l
