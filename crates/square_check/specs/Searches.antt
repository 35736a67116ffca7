-- The first pair that fails, as it is searched.
use Rattle.std.specs.Prelude.{◌≡◌, ℕ, Bool, true, Option, None, Some, if◌then◌else◌}
use Rattle.std.specs.Prelude.{MatchOption, slice_get, nat_lt, ◌||◌, ◌==◌, ◌&&◌}
use Rattle.cell_complex.specs.Complexes.{CellComplex, middles}
use Rattle.square_check.specs.Answers.{IsFirstOf}

-- the first pair of cells that fails; none where all pairs pass
abbrev pub IsFirstFailure : (ℕ → ℕ → Type 0) → ℕ → Option (ℕ × ℕ) → Type 0
IsFirstFailure P count r = MatchOption r ((s u : ℕ) → P s u) (λ p. IsFirstOf P count p.0 p.1)

-- whether p comes before q
abbrev pub is_before : ℕ × ℕ → ℕ × ℕ → Bool
is_before p q = nat_lt p.0 q.0 || ((p.0 == q.0) && nat_lt p.1 q.1)

-- the earlier of two pairs, as far as there are any
abbrev pub earlier_pair : Option (ℕ × ℕ) → Option (ℕ × ℕ) → Option (ℕ × ℕ)
earlier_pair None b = b
earlier_pair (Some p) None = Some p
earlier_pair (Some p) (Some q) = if is_before q p then Some q else Some p

-- the pair, if any, fails
abbrev pub Fails : (ℕ → ℕ → Type 0) → Option (ℕ × ℕ) → Type 0
Fails P r = MatchOption r (Unit {0}) (λ p. P p.0 p.1 → ⊥)

-- s and u pass, unless the answer is a pair that does not come after them
abbrev pub PassesBefore : (ℕ → ℕ → Type 0) → Option (ℕ × ℕ) → ℕ → ℕ → Type 0
PassesBefore P r s u = MatchOption r (P s u) (λ p. is_before (s, u) p ≡ true → P s u)

-- t is the first cell between s and u
abbrev pub IsFirstMiddle : CellComplex → ℕ → ℕ → ℕ → Type 0
IsFirstMiddle c s t u = slice_get (middles c s u) 0 ≡ Some t
