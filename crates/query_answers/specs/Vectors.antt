-- Members of lists of bases.
use Rattle.std.specs.Prelude.{◌≡◌, ℕ, List, Vec, Some, slice_get}
use Rattle.cochain_vec.specs.declared.cochain.Cochain.{Cochain}
use Rattle.equivalences.specs.CochainLists.{values_of}

-- they are the coordinates of the cochains in list k
abbrev pub AreVectorsAt : {Z : Type 0} → List (Vec Cochain Z) → ℕ → List (List ℕ) → Type 0
AreVectorsAt {Z} bases k vectors =
    (zs : Vec Cochain Z) × (slice_get bases k ≡ Some zs) × (vectors ≡ values_of zs.items)
