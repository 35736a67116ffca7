use Rattle.std.proofs.Common.{◌≡◌, ℕ, ◌<◌, get_or}
use Rattle.incidence_check.proofs.pairs.all_marked.Given as goal

abbrev pub invariant-loop-s : goal.invariant-loop-s
invariant-loop-s l = (k : ℕ) → k < l.s-index → get_or l.marks (get_or l.s-items k 0) 0 ≡ l.mark
