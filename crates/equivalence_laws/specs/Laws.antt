-- The laws of equivalences.
use Rattle.std.specs.Prelude.{◌≡◌, ◌↔◌, ℕ, suc, List, [], ◌∷◌, ◌++◌, map}
use Rattle.dense_blocks.specs.Field.{Ops}
use Rattle.dense_blocks.specs.FieldLaws.{IsField}
use Rattle.dense_blocks.specs.Vectors.{plus, combination}
use Rattle.dense_blocks.specs.Matrices.{image_of}
use Rattle.dense_blocks.specs.MatrixFacts.{IsMatrix}
use Rattle.cochain_vec.specs.Complexes.{CellularComplex, coordinates}
use Rattle.cochain_vec.specs.Shapes.{RowsFit}
use Rattle.cochain_vec.specs.Cohomology.{IsCocycle, IsCoboundary, IsBasis}
use Rattle.cochain_vec.specs.CochainComplexes.{IsCochainComplex}
use Rattle.block_complexes.specs.BlockComplexes.{BlockComplex, IsBlockComplex, HaveSameMatrices}
use Rattle.block_complexes.specs.Cochains.{complex_of}
use Rattle.removals.specs.Reductions.{IsAfter}
use Rattle.equivalence_laws.specs.Equivalences.{GradedMatrix, map_of, d_h, composite_pi, composite_iota, composite_h}
use Rattle.equivalence_laws.specs.Equivalences.{IsEquivalence, AreMatricesOf}
use Rattle.equivalence_laws.specs.RemovalMaps.{Removal, IsRemovalFrom, removal_pi, removal_iota, removal_h}
use Rattle.equivalence_laws.specs.Composites.{AreRemovals, removal_pairs, rest_of, IsComposite, IsCompositeOfPairs}
use Rattle.equivalence_laws.specs.Updates.{AreNextMatrices, next_pi, next_iota, next_h}
use Rattle.equivalence_laws.specs.Bases.{HasNoCoboundary, HasNoBlock, unit_images}

-- for every block complex over a field in which the coboundary of each coboundary is zero
abbrev pub ForEachComplex : (Ops → BlockComplex → Type 0) → Type 0
ForEachComplex P = (K : Ops) (v : BlockComplex) → IsField K → IsBlockComplex K v → IsCochainComplex K (complex_of v)
    → P K v

-- the matrices of the three maps of a removal are an equivalence of the block complex and of what is left
abbrev pub RemovalGivesEquivalence : Type 0
RemovalGivesEquivalence = ForEachComplex (λ K v. (r : Removal) (pi iota h : GradedMatrix) → IsRemovalFrom K v r
    → AreMatricesOf K (complex_of v) (complex_of r.rest) (removal_pi K v r) (removal_iota K v r) (removal_h K v r)
    pi iota h → IsEquivalence K (complex_of v) (complex_of r.rest) pi iota h)

-- two equivalences, the second from where the first ends, compose to one
abbrev pub EquivalencesCompose : Type 0
EquivalencesCompose = (K : Ops) (C D E : CellularComplex) (pi1 iota1 h1 pi2 iota2 h2 : GradedMatrix)
    → IsField K → RowsFit C → RowsFit D → RowsFit E
    → IsEquivalence K C D pi1 iota1 h1 → IsEquivalence K D E pi2 iota2 h2
    → IsEquivalence K C E (composite_pi K C pi1 pi2) (composite_iota K E iota1 iota2)
    (composite_h K C pi1 iota1 h1 h2)

-- the composite of removals, one after another, is an equivalence of the first block complex and the last
abbrev pub CompositeIsEquivalence : Type 0
CompositeIsEquivalence = ForEachComplex (λ K v. (rs : List Removal) (pi iota h : GradedMatrix) → AreRemovals K v rs
    → IsComposite K v rs pi iota h → IsEquivalence K (complex_of v) (complex_of (rest_of v rs)) pi iota h)

-- there is a composite
abbrev pub CompositeExists : Type 0
CompositeExists = ForEachComplex (λ K v. (rs : List Removal) → AreRemovals K v rs
    → (pi : GradedMatrix) × (iota : GradedMatrix) × (h : GradedMatrix) × IsComposite K v rs pi iota h)

-- in each degree two triples are the same
abbrev pub AreSameMatrices : (pi1 iota1 h1 pi2 iota2 h2 : GradedMatrix) → Type 0
AreSameMatrices pi1 iota1 h1 pi2 iota2 h2 = (k : ℕ) → (pi1 k ≡ pi2 k) × (iota1 k ≡ iota2 k) × (h1 k ≡ h2 k)

-- and there is only one
abbrev pub CompositeIsUnique : Type 0
CompositeIsUnique = (K : Ops) (v : BlockComplex) (rs : List Removal) (pi1 iota1 h1 pi2 iota2 h2 : GradedMatrix)
    → IsField K → IsComposite K v rs pi1 iota1 h1 → IsComposite K v rs pi2 iota2 h2
    → AreSameMatrices pi1 iota1 h1 pi2 iota2 h2

-- the matrices of the composite of some removals become, by one removal more, those of the composite with it at the end
abbrev pub NextIsComposite : Type 0
NextIsComposite = ForEachComplex (λ K v. (rs : List Removal) (r : Removal) (pi iota h pi' iota' h' : GradedMatrix)
    → AreRemovals K v rs → IsRemovalFrom K (rest_of v rs) r → IsComposite K v rs pi iota h
    → AreNextMatrices K v (rest_of v rs) r pi iota h pi' iota' h' → IsComposite K v (rs ++ r ∷ []) pi' iota' h')

-- row and column operations make these matrices, for pi, iota and h of the right shapes from v to u
abbrev pub OperationsGiveNext : Type 0
OperationsGiveNext = ForEachComplex (λ K u. (v : BlockComplex) (r : Removal) (pi iota h : GradedMatrix)
    → IsRemovalFrom K u r
    → ((k : ℕ) → IsMatrix K (coordinates (complex_of u) k) (coordinates (complex_of v) k) (pi k))
    → ((k : ℕ) → IsMatrix K (coordinates (complex_of v) k) (coordinates (complex_of u) k) (iota k))
    → ((k : ℕ) → IsMatrix K (coordinates (complex_of v) k) (coordinates (complex_of v) (suc k)) (h k))
    → AreNextMatrices K v u r pi iota h
    (λ k. next_pi K u r k (coordinates (complex_of v) k) (pi k))
    (λ k. next_iota K u r k (iota k))
    (λ k. next_h K u r k (coordinates (complex_of v) (suc k)) (h k) (iota k) (pi (suc k))))

-- w is what is left of v once these pairs have been removed exactly where removals of these pairs leave the same as w
abbrev pub AfterIsByRemovals : Type 0
AfterIsByRemovals = (K : Ops) (v w : BlockComplex) (pairs : List (ℕ × ℕ)) → IsAfter K v pairs w
    ↔ ((rs : List Removal) × (removal_pairs rs ≡ pairs) × AreRemovals K v rs × HaveSameMatrices (rest_of v rs) w)

-- then there are matrices of their composite
abbrev pub PairsHaveComposite : Type 0
PairsHaveComposite = ForEachComplex (λ K v. (w : BlockComplex) (pairs : List (ℕ × ℕ)) → IsAfter K v pairs w
    → (pi : GradedMatrix) × (iota : GradedMatrix) × (h : GradedMatrix) × IsCompositeOfPairs K v pairs pi iota h)

-- they are an equivalence of v and w
abbrev pub PairsGiveEquivalence : Type 0
PairsGiveEquivalence = ForEachComplex (λ K v. (w : BlockComplex) (pairs : List (ℕ × ℕ)) (pi iota h : GradedMatrix)
    → IsAfter K v pairs w → IsCompositeOfPairs K v pairs pi iota h
    → IsEquivalence K (complex_of v) (complex_of w) pi iota h)

-- and the pairs tell which: no choice of inverses, and nothing off the live cells, counts
abbrev pub PairsTellComposite : Type 0
PairsTellComposite = (K : Ops) (v v' : BlockComplex) (pairs : List (ℕ × ℕ))
    (pi1 iota1 h1 pi2 iota2 h2 : GradedMatrix) → IsField K → IsBlockComplex K v → HaveSameMatrices v v'
    → IsCompositeOfPairs K v pairs pi1 iota1 h1 → IsCompositeOfPairs K v' pairs pi2 iota2 h2
    → AreSameMatrices pi1 iota1 h1 pi2 iota2 h2

-- for every equivalence over a field of complexes whose matrices fit their cells
abbrev pub ForEachEquivalence : (Ops → CellularComplex → CellularComplex → (pi iota h : GradedMatrix) → Type 0)
    → Type 0
ForEachEquivalence P = (K : Ops) (C D : CellularComplex) (pi iota h : GradedMatrix) → IsField K
    → RowsFit C → RowsFit D → IsEquivalence K C D pi iota h → P K C D pi iota h

-- iota sends a basis of the cohomology of D to one of C
abbrev pub EquivalenceCarriesBases : Type 0
EquivalenceCarriesBases = ForEachEquivalence (λ K C D pi iota h. (k : ℕ) (B : List (List ℕ)) → IsBasis K D k B
    → IsBasis K C k (map (image_of K (iota k)) B))

-- where D has no coboundary, the images of the unit vectors are a basis of the cohomology of C
abbrev pub UnitImagesAreBasis : Type 0
UnitImagesAreBasis = ForEachEquivalence (λ K C D pi iota h. HasNoCoboundary K D → (k : ℕ)
    → IsBasis K C k (unit_images K D iota k))

-- each cocycle z is the combination of these images by pi z, plus the coboundary of h z
abbrev pub CocyclesHaveCoordinates : Type 0
CocyclesHaveCoordinates = ForEachEquivalence (λ K C D pi iota h. (k : ℕ) (z : List ℕ) → IsCocycle K C k z
    → (z ≡ plus K (combination K (coordinates C k) (image_of K (pi k) z) (unit_images K D iota k))
    (d_h K C (map_of K h) k z))
    × IsCoboundary K C k (d_h K C (map_of K h) k z))

-- where removals leave no block, the images of the unit vectors are a basis of the cohomology of the first complex
abbrev pub RemovalsGiveBases : Type 0
RemovalsGiveBases = ForEachComplex (λ K v. (rs : List Removal) (pi iota h : GradedMatrix) → AreRemovals K v rs
    → IsComposite K v rs pi iota h → HasNoBlock (rest_of v rs) → (k : ℕ)
    → IsBasis K (complex_of v) k (unit_images K (complex_of (rest_of v rs)) iota k))

-- the same of pairs whose removal leaves w
abbrev pub PairsGiveBases : Type 0
PairsGiveBases = ForEachComplex (λ K v. (w : BlockComplex) (pairs : List (ℕ × ℕ)) (pi iota h : GradedMatrix)
    → IsAfter K v pairs w → IsCompositeOfPairs K v pairs pi iota h → HasNoBlock w → (k : ℕ)
    → IsBasis K (complex_of v) k (unit_images K (complex_of w) iota k))
