-- Lists of cochains, one for each degree.
use Rattle.std.specs.Prelude.{◌≡◌, ℕ, List, Vec, Some, slice_get}
use Rattle.dense_blocks.specs.Field.{Ops}
use Rattle.cochain_vec.specs.declared.cochain.Cochain.{Cochain}
use Rattle.cochain_vec.specs.Complexes.{CellularComplex}
use Rattle.cochain_vec.specs.Cohomology.{IsBasis}
use Rattle.equivalences.specs.CochainLists.{AreCochains, values_of}

-- list k has cochains of degree k, with the coordinates that these say of degree k
abbrev pub AreGradedCochains : {Z : Type 0} → (ℕ → List (List ℕ)) → List (Vec Cochain Z) → Type 0
AreGradedCochains {Z} values lists = (k : ℕ) (zs : Vec Cochain Z) → slice_get lists k ≡ Some zs
    → AreCochains k (values k) zs.items

-- list k is a basis of the cohomology of degree k
abbrev pub AreBases : {Z : Type 0} → Ops → CellularComplex → List (Vec Cochain Z) → Type 0
AreBases {Z} K C lists = (k : ℕ) (zs : Vec Cochain Z) → slice_get lists k ≡ Some zs → IsBasis K C k (values_of zs.items)
