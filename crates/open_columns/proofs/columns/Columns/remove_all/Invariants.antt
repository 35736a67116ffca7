use Rattle.std.proofs.Common.{◌≡◌, ℕ, take, cond, eqb, ◌&&◌, None}
use Rattle.rising_lists.specs.Rising.{has, entry_of}
use Rattle.open_columns.proofs.columns.Columns.remove_all.Given as goal

abbrev pub invariant-loop-x : goal.invariant-loop-x
invariant-loop-x l = record {
  cells : l.self.cells ≡ l.initial.self.cells;
  entries : (k p : ℕ) → entry_of l.self k p ≡ cond (has k (take l.x-index l.listed) && eqb p l.t) None
      (entry_of l.initial.self k p);
}
