-- Block complexes in which the coboundary of each coboundary is zero, by their matrices and by their cochains.
use Rattle.std.specs.Prelude.{◌↔◌}
use Rattle.dense_blocks.specs.Field.{Ops}
use Rattle.dense_blocks.specs.FieldLaws.{IsField}
use Rattle.cochain_vec.specs.CochainComplexes.{IsCochainComplex}
use Rattle.block_complexes.specs.BlockComplexes.{BlockComplex, IsBlockComplex}
use Rattle.block_complexes.specs.Cochains.{complex_of}
use Rattle.block_complexes.specs.Differentials.{IsDifferential}

-- the matrices of a block complex over a field are a differential exactly where the coboundary of the coboundary of
-- each cochain is zero
abbrev pub DifferentialIsCochainComplex : Type 0
DifferentialIsCochainComplex = (K : Ops) (v : BlockComplex) → IsField K → IsBlockComplex K v → IsDifferential K v
    ↔ IsCochainComplex K (complex_of v)
