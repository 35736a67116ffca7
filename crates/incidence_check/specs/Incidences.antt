-- Regular incidences.
use Rattle.std.specs.Prelude.{◌≡◌, ℕ, ◌+◌, ◌<◌, Bool, true, false, IsTrue, not, List, [], ◌∷◌, ◌++◌, Option, None, Some}
use Rattle.std.specs.Prelude.{length, slice_index, ◌⊎◌, ◌==◌, ◌&&◌, if◌then◌else◌}
use Rattle.std.specs.List.{filter_map, flat_map}
use Rattle.std.specs.Option.{option_map, option_and_then}
use Rattle.cell_complex.specs.declared.face.Sign.{Sign}
use Rattle.cell_complex.specs.declared.face.Sign.TheVariants.{Plus, Minus}
use Rattle.cell_complex.specs.Complexes.{CellComplex, all_cells, sign, faces_of, middles}
use Rattle.incidence_check.specs.declared.incidence.Incidence.{Incidence}
use Rattle.incidence_check.specs.declared.incidence.Incidence.TheVariants.{EdgeEnds, Middles, Signs}

-- one is plus and the other is minus
abbrev pub are_opposite : Option Sign → Option Sign → Bool
are_opposite (Some Plus) (Some Minus) = true
are_opposite (Some Minus) (Some Plus) = true
are_opposite _ _ = false

abbrev pub times : Sign → Sign → Sign
times Plus b = b
times Minus Plus = Minus
times Minus Minus = Plus

-- the product of the signs of s in t and of t in u
abbrev pub sign_product : CellComplex → ℕ → ℕ → ℕ → Option Sign
sign_product c s t u = option_and_then (λ a. option_map (times a) (sign c t u)) (sign c s t)

-- exactly two cells, with opposite signs
abbrev pub are_opposite_pair : (ℕ → Option Sign) → List ℕ → Bool
are_opposite_pair sign_at (a ∷ b ∷ []) = are_opposite (sign_at a) (sign_at b)
are_opposite_pair sign_at _ = false

-- each edge has exactly two ends, of opposite sign; between two cells two dimensions apart are no cells, or exactly
-- two, with opposite products of signs
pub record HasRegularIncidences (c : CellComplex) : Type 0 where
  pub edges : (t : ℕ) → t < length c.dims → slice_index c.dims t ≡ 1
      → IsTrue (are_opposite_pair (λ s. sign c s t) (faces_of c t))
  pub squares : (s u : ℕ) → s < length c.dims → u < length c.dims → slice_index c.dims u ≡ slice_index c.dims s + 2
      → (middles c s u ≡ []) ⊎ IsTrue (are_opposite_pair (λ t. sign_product c s t u) (middles c s u))

-- what is wrong with the cell t, where it is an edge
abbrev pub edge_fault : CellComplex → ℕ → Option Incidence
edge_fault c t =
    if (slice_index c.dims t == 1) && not (are_opposite_pair (λ s. sign c s t) (faces_of c t)) then
    Some (EdgeEnds t) else None

-- what is wrong with these cells between s and u
abbrev pub middles_fault : CellComplex → ℕ → ℕ → List ℕ → Option Incidence
middles_fault c s u [] = None
middles_fault c s u (a ∷ b ∷ []) =
    if are_opposite (sign_product c s a u) (sign_product c s b u) then None else Some (Signs s u)
middles_fault c s u ts = Some (Middles s u (length ts))

-- all faults: those of the edges in order, then those of the pairs of cells in order
abbrev pub faults : CellComplex → List Incidence
faults c = filter_map (edge_fault c) (all_cells c)
    ++ flat_map (λ s. filter_map (λ u. middles_fault c s u (middles c s u)) (all_cells c)) (all_cells c)
