-- The least number that passes a test.
use Rattle.std.specs.Prelude.{◌≡◌, ℕ, ◌<◌, ◌≤◌, Bool, true, false, List, Option, None, Some, MatchOption, min}
use Rattle.std.specs.List.{list_any}
use Rattle.cell_complex.specs.Complexes.{CellComplex, is_face}

-- the least number from a lower bound on that passes the test, where one does
abbrev pub IsLeastFrom : (ℕ → Bool) → ℕ → Option ℕ → Type 0
IsLeastFrom test from r = MatchOption r ((u : ℕ) → from ≤ u → test u ≡ false)
    (λ u. (from ≤ u) × (test u ≡ true) × ((v : ℕ) → from ≤ v → v < u → test v ≡ false))

-- the lesser of two numbers, as far as there are any
abbrev pub lesser : Option ℕ → Option ℕ → Option ℕ
lesser None b = b
lesser (Some a) None = Some a
lesser (Some a) (Some b) = Some (min a b)

-- whether some of the cells is a face of u
abbrev pub reaches : CellComplex → List ℕ → ℕ → Bool
reaches c ts u = list_any (λ t. is_face c t u) ts
