use Rattle.std.proofs.Common.{◌≡◌, ℕ, ◌+◌, ◌*◌, ◌<◌, true, get_or}
use Rattle.cell_complex.specs.Complexes.{is_face}
use Rattle.incidence_check.proofs.pairs.all_cancel.Given as goal

abbrev pub invariant-loop-t : goal.invariant-loop-t
invariant-loop-t l = (k s : ℕ) → k < l.t-index → is_face l.c s (get_or l.t-items k 0) ≡ true
    → get_or l.marks s 0 ≡ 4 * l.u + 3
