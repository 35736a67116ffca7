-- Pairs of cells between which nothing is wrong.
use Rattle.std.specs.Prelude.{◌≡◌, ℕ, None}
use Rattle.cell_complex.specs.Complexes.{CellComplex}
use Rattle.incidence_check.specs.Answers.{pair_fault}

-- nothing is wrong between u and any cell
abbrev pub PassesBelow : CellComplex → ℕ → Type 0
PassesBelow c u = (s : ℕ) → pair_fault c s u ≡ None

-- nothing is wrong between any two cells
abbrev pub AllPass : CellComplex → Type 0
AllPass c = (s u : ℕ) → pair_fault c s u ≡ None
