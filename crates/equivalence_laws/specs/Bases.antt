-- Complexes without a coboundary: the unit vectors are a basis of their cohomology.
use Rattle.std.specs.Prelude.{◌≡◌, ℕ, suc, List, map}
use Rattle.dense_blocks.specs.Field.{Ops}
use Rattle.dense_blocks.specs.Vectors.{zeros}
use Rattle.dense_blocks.specs.Matrices.{image_of}
use Rattle.dense_blocks.specs.MatrixFacts.{identity, zero_matrix}
use Rattle.cochain_vec.specs.Complexes.{CellularComplex, coordinates, IsCochain, coboundary}
use Rattle.block_complexes.specs.BlockComplexes.{BlockComplex, AreBothLive, size_of}
use Rattle.equivalence_laws.specs.Equivalences.{GradedMatrix}

-- the coboundary of each cochain is zero
abbrev pub HasNoCoboundary : Ops → CellularComplex → Type 0
HasNoCoboundary K D = (k : ℕ) (z : List ℕ) → IsCochain K D k z → coboundary K D k z ≡ zeros (coordinates D (suc k))

-- each matrix between live cells is zero
abbrev pub HasNoBlock : BlockComplex → Type 0
HasNoBlock v = (s t : ℕ) → AreBothLive v.live s t → v.matrix s t ≡ zero_matrix (size_of v.live t) (size_of v.live s)

-- the images under iota of the unit vectors of degree k of D
abbrev pub unit_images : Ops → CellularComplex → GradedMatrix → ℕ → List (List ℕ)
unit_images K D iota k = map (image_of K (iota k)) (identity (coordinates D k))
