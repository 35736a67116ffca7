-- The list of the inverses, entry by entry.
use Rattle.std.proofs.Common.{◌≡◌, ◌≢◌, ℕ, ◌-◌, ◌<◌, length, get_or, arith}
use Rattle.std.proofs.lemmas.List.FromFn.{length-map-range_with_len, get_or-map-range_with_len}
use Rattle.field_table.specs.Modular.{inverse}
use Rattle.field_table.specs.ModularFacts.{inverses}

-- each of 1, 2, .. up to q - 1 has one
pub length-inverses : (q : ℕ) → length (inverses q) ≡ q - 1
unfolding inverses
length-inverses q = length-map-range_with_len (inverse q) 1 (q - 1)

-- that of a stands at place a - 1
pub get_or-inverses : (q a : ℕ) → a < q → a ≢ 0 → get_or (inverses q) (a - 1) 0 ≡ inverse q a
unfolding inverses
get_or-inverses q a h n = get_or-map-range_with_len (inverse q) 1 (q - 1) (a - 1) a 0 (omega arith) (omega arith)

-- what a look-up needs
pub ruleset inverse_entries = (length-inverses, get_or-inverses)
