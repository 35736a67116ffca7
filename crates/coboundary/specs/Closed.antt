-- The coboundary of a coboundary of a sheaf is zero.
use Rattle.std.specs.Prelude.{ℕ, List}
use Rattle.cell_complex.specs.Complexes.{CellComplex}
use Rattle.cell_complex.specs.Invariants.{IsComplex}
use Rattle.dense_blocks.specs.Field.{Ops}
use Rattle.dense_blocks.specs.FieldLaws.{IsField}
use Rattle.dense_blocks.specs.declared.block.Block.{Block}
use Rattle.cochain_vec.specs.Cohomology.{IsCoboundary, IsCocycle}
use Rattle.cochain_vec.specs.CochainComplexes.{IsCochainComplex}
use Rattle.sheaf_data.specs.Sheaves.{IsSheaf}
use Rattle.sheaf_data.specs.Betti.{cochain_complex_of}

-- for every sheaf over a field: the coboundary of the coboundary of a cochain is the zero cochain two degrees up
abbrev pub CoboundaryOfCoboundaryIsZero : Type 0
CoboundaryOfCoboundaryIsZero = (K : Ops) (c : CellComplex) (stalks : List ℕ) (blocks : List Block) → IsField K
    → IsComplex c
    → IsSheaf K c stalks blocks → IsCochainComplex K (cochain_complex_of K c stalks blocks)

-- for every sheaf over a field: a coboundary is a cocycle
abbrev pub CoboundariesAreCocycles : Type 0
CoboundariesAreCocycles = (K : Ops) (c : CellComplex) (stalks : List ℕ) (blocks : List Block) → IsField K → IsComplex c
    → IsSheaf K c stalks blocks → (k : ℕ) (z : List ℕ)
    → IsCoboundary K (cochain_complex_of K c stalks blocks) k z → IsCocycle K (cochain_complex_of K c stalks blocks) k z
