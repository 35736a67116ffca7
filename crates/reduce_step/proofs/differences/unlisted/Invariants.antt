use Rattle.std.proofs.Common.{◌≡◌, ◌<◌, ◌∷◌, ℕ, true, get_or}
use Rattle.rising_lists.specs.Rising.{has, keys}
use Rattle.reduce_step.proofs.differences.unlisted.Given as goal

abbrev pub invariant-loop-c : goal.invariant-loop-c
invariant-loop-c l = (i : ℕ) → i < l.c-index → has (get_or l.cells i 0) (l.but ∷ keys l.listed) ≡ true
