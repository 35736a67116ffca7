-- The start complex of a sheaf has the cochains and the coboundary of the sheaf.
use Rattle.std.specs.Prelude.{◌≡◌, ◌↔◌, ℕ, List}
use Rattle.cell_complex.specs.Complexes.{CellComplex}
use Rattle.cell_complex.specs.Invariants.{IsComplex}
use Rattle.dense_blocks.specs.Field.{Ops}
use Rattle.dense_blocks.specs.FieldLaws.{IsField}
use Rattle.dense_blocks.specs.declared.block.Block.{Block}
use Rattle.cochain_vec.specs.Complexes.{CellularComplex, coboundary, coordinates}
use Rattle.cochain_vec.specs.Cohomology.{IsBasis}
use Rattle.cochain_vec.specs.CochainComplexes.{IsCochainComplex}
use Rattle.block_complexes.specs.BlockComplexes.{BlockComplex, IsBlockComplex}
use Rattle.block_complexes.specs.Cochains.{complex_of}
use Rattle.sheaf_data.specs.Sheaves.{IsSheaf}
use Rattle.sheaf_data.specs.Betti.{cochain_complex_of}
use Rattle.coboundary.specs.Start.{start_complex}

-- for every sheaf over a field, its complex C and its start complex v
abbrev pub ForEachStart : (Ops → CellularComplex → BlockComplex → Type 0) → Type 0
ForEachStart P = (K : Ops) (c : CellComplex) (stalks : List ℕ) (blocks : List Block) → IsField K → IsComplex c
    → IsSheaf K c stalks blocks
    → P K (cochain_complex_of K c stalks blocks) (start_complex K c stalks blocks)

-- two complexes have cochains of as many coordinates, and the same coboundary, in each degree
pub record HaveSameCoboundary (K : Ops) (C D : CellularComplex) : Type 0 where
  pub sizes : (k : ℕ) → coordinates C k ≡ coordinates D k
  pub maps : (k : ℕ) (z : List ℕ) → coboundary K C k z ≡ coboundary K D k z

-- it is a block complex over the field
abbrev pub StartIsBlockComplex : Type 0
StartIsBlockComplex = ForEachStart (λ K C v. IsBlockComplex K v)

abbrev pub StartHasTheCoboundary : Type 0
StartHasTheCoboundary = ForEachStart (λ K C v. HaveSameCoboundary K (complex_of v) C)

-- the coboundary of the coboundary is zero
abbrev pub StartIsCochainComplex : Type 0
StartIsCochainComplex = ForEachStart (λ K C v. IsCochainComplex K (complex_of v))

-- the bases of cohomology are those of the sheaf
abbrev pub StartHasTheCohomology : Type 0
StartHasTheCohomology = ForEachStart (λ K C v. (k : ℕ) (B : List (List ℕ)) → IsBasis K (complex_of v) k B
    ↔ IsBasis K C k B)
