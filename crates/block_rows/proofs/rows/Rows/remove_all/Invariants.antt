use Rattle.std.proofs.Common.{◌≡◌, ℕ, take, cond, eqb, ◌&&◌, None}
use Rattle.rising_lists.specs.Rising.{has, entry_of}
use Rattle.block_rows.proofs.rows.Rows.remove_all.Given as goal

abbrev pub invariant-loop-c : goal.invariant-loop-c
invariant-loop-c l = record {
  cells : l.self.cells ≡ l.initial.self.cells;
  entries : (k p : ℕ) → entry_of l.self k p ≡ cond (has k (take l.c-index l.listed) && eqb p l.q) None
      (entry_of l.initial.self k p);
}
