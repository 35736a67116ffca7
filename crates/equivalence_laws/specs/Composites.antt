-- Removals one after another, and their maps.
use Rattle.std.specs.Prelude.{◌≡◌, ℕ, suc, List, ◌∷◌, map, []}
use Rattle.dense_blocks.specs.Field.{Ops}
use Rattle.dense_blocks.specs.Vectors.{zeros, plus}
use Rattle.cochain_vec.specs.Complexes.{coordinates}
use Rattle.block_complexes.specs.BlockComplexes.{BlockComplex}
use Rattle.block_complexes.specs.Cochains.{complex_of}
use Rattle.equivalence_laws.specs.Equivalences.{GradedMap, GradedMatrix, AreMatricesOf}
use Rattle.equivalence_laws.specs.RemovalMaps.{Removal, IsRemovalFrom, removal_pi, removal_iota, removal_h}

-- each is a removal from what those before it leave of v
abbrev pub AreRemovals : Ops → BlockComplex → List Removal → Type 0
AreRemovals K v [] = Unit {0}
AreRemovals K v (r ∷ rs) = IsRemovalFrom K v r × AreRemovals K r.rest rs

-- the pairs of cells, in order
abbrev pub removal_pairs : List Removal → List (ℕ × ℕ)
removal_pairs rs = map (λ r. (r.x, r.y)) rs

-- what is left of v after them
abbrev pub rest_of : BlockComplex → List Removal → BlockComplex
rest_of v [] = v
rest_of v (r ∷ rs) = rest_of r.rest rs

-- their composite: pi2 pi1, and the identity for no removal
abbrev pub removals_pi : Ops → BlockComplex → List Removal → GradedMap
removals_pi K v [] k z = z
removals_pi K v (r ∷ rs) k z = removals_pi K r.rest rs k (removal_pi K v r k z)

-- iota1 iota2, and the identity for no removal
abbrev pub removals_iota : Ops → BlockComplex → List Removal → GradedMap
removals_iota K v [] k z = z
removals_iota K v (r ∷ rs) k z = removal_iota K v r k (removals_iota K r.rest rs k z)

-- h1 + iota1 h2 pi1, and zero for no removal
abbrev pub removals_h : Ops → BlockComplex → List Removal → GradedMap
removals_h K v [] k z = zeros (coordinates (complex_of v) k)
removals_h K v (r ∷ rs) k z =
    plus K (removal_h K v r k z) (removal_iota K v r k (removals_h K r.rest rs k (removal_pi K v r (suc k) z)))

-- pi, iota and h are the matrices of the composite
abbrev pub IsComposite : Ops → BlockComplex → List Removal → (pi iota h : GradedMatrix) → Type 0
IsComposite K v rs pi iota h = AreMatricesOf K (complex_of v) (complex_of (rest_of v rs))
    (removals_pi K v rs) (removals_iota K v rs) (removals_h K v rs) pi iota h

-- they are those of some removals of these pairs, in this order
abbrev pub IsCompositeOfPairs : Ops → BlockComplex → List (ℕ × ℕ) → (pi iota h : GradedMatrix) → Type 0
IsCompositeOfPairs K v pairs pi iota h =
    (rs : List Removal) × (removal_pairs rs ≡ pairs) × AreRemovals K v rs × IsComposite K v rs pi iota h
