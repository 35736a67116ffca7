-- What the check of incidences answers, pair by pair.
use Rattle.std.specs.Prelude.{◌≡◌, ℕ, List, [], ◌∷◌, Option, Some, IsTrue}
use Rattle.std.specs.Prelude.{slice_get, Result, MatchResult}
use Rattle.std.specs.List.{filter_map}
use Rattle.cell_complex.specs.Complexes.{CellComplex, all_cells, middles}
use Rattle.incidence_check.specs.declared.incidence.Incidence.{Incidence}
use Rattle.incidence_check.specs.Incidences.{are_opposite, sign_product, middles_fault}

-- the answer is the first of these, and ok where there are none
abbrev pub AnswersFirst : List Incidence → Result (Unit {0}) Incidence → Type 0
AnswersFirst faults r = MatchResult r (λ _. faults ≡ []) (λ fault. slice_get faults 0 ≡ Some fault)

-- what is wrong between s and u
abbrev pub pair_fault : CellComplex → ℕ → ℕ → Option Incidence
pair_fault c s u = middles_fault c s u (middles c s u)

-- the faults of the pairs of s with each cell, in order
abbrev pub pair_faults : CellComplex → ℕ → List Incidence
pair_faults c s = filter_map (pair_fault c s) (all_cells c)

-- between s and u are exactly these two cells, with opposite products of signs
pub record HasOppositeMiddles (c : CellComplex) (s u : ℕ) : Type 0 where
  pub first : ℕ
  pub second : ℕ
  pub middles : middles c s u ≡ first ∷ second ∷ []
  pub opposite : IsTrue (are_opposite (sign_product c s first u) (sign_product c s second u))
