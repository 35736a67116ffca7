-- Equivalences of complexes: maps of cochains both ways that are inverse up to a homotopy.
use Rattle.std.specs.Prelude.{◌≡◌, ℕ, zero, suc, List, [], slice_get}
use Rattle.std.specs.Option.{option_map_or}
use Rattle.dense_blocks.specs.Field.{Ops}
use Rattle.dense_blocks.specs.Vectors.{zeros, plus}
use Rattle.dense_blocks.specs.Matrices.{image_of, product}
use Rattle.dense_blocks.specs.MatrixFacts.{IsMatrix, matrix_sum}
use Rattle.dense_blocks.specs.Blocks.{matrix_of}
use Rattle.dense_blocks.specs.declared.block.Block.{Block}
use Rattle.dense_blocks.specs.LinearMaps.{IsMatrixOf}
use Rattle.cochain_vec.specs.Complexes.{CellularComplex, coordinates, IsCochain, coboundary}

-- a map of cochains for each degree
abbrev pub GradedMap : Type 0
GradedMap = ℕ → List ℕ → List ℕ

-- a matrix for each degree
abbrev pub GradedMatrix : Type 0
GradedMatrix = ℕ → List (List ℕ)

-- that of a list of blocks: the matrix of block k in degree k, and none, without rows, where there is no block
abbrev pub graded_matrix : List Block → GradedMatrix
graded_matrix blocks k = option_map_or matrix_of (slice_get blocks k) []

-- what the matrices make of cochains
abbrev pub map_of : Ops → GradedMatrix → GradedMap
map_of K A k z = image_of K (A k) z

-- the coboundary of h z, for z of degree k; zero in degree 0, which has no degree below
abbrev pub d_h : Ops → CellularComplex → GradedMap → GradedMap
d_h K C h zero z = zeros (coordinates C 0)
d_h K C h (suc k) z = coboundary K C k (h k z)

-- pi d = d' pi, d iota = iota d', pi iota = 1 and 1 = iota pi + (d h + h d), on all cochains of all degrees, where d is
-- the coboundary of C and d' that of D: in degree k, pi goes from C to D, iota from D to C, and h comes from degree
-- k + 1 of C
pub record MeetEquations (K : Ops) (C D : CellularComplex) (pi iota h : GradedMap) : Type 0 where
  pub pi_d : (k : ℕ) (z : List ℕ) → IsCochain K C k z → pi (suc k) (coboundary K C k z) ≡ coboundary K D k (pi k z)
  pub d_iota : (k : ℕ) (z : List ℕ) → IsCochain K D k z
      → coboundary K C k (iota k z) ≡ iota (suc k) (coboundary K D k z)
  pub pi_iota : (k : ℕ) (z : List ℕ) → IsCochain K D k z → pi k (iota k z) ≡ z
  pub homotopy : (k : ℕ) (z : List ℕ) → IsCochain K C k z
      → z ≡ plus K (iota k (pi k z)) (plus K (d_h K C h k z) (h k (coboundary K C k z)))

-- C and D are equivalent by these matrices: they have the right shapes and meet the four equations
pub record IsEquivalence (K : Ops) (C D : CellularComplex) (pi iota h : GradedMatrix) : Type 0 where
  pub pi_shape : (k : ℕ) → IsMatrix K (coordinates D k) (coordinates C k) (pi k)
  pub iota_shape : (k : ℕ) → IsMatrix K (coordinates C k) (coordinates D k) (iota k)
  pub h_shape : (k : ℕ) → IsMatrix K (coordinates C k) (coordinates C (suc k)) (h k)
  pub equations : MeetEquations K C D (map_of K pi) (map_of K iota) (map_of K h)

-- the composite of two equivalences, of C and D and of D and E: pi2 pi1
abbrev pub composite_pi : Ops → CellularComplex → (pi1 pi2 : GradedMatrix) → GradedMatrix
composite_pi K C pi1 pi2 k = product K (coordinates C k) (pi2 k) (pi1 k)

-- iota1 iota2
abbrev pub composite_iota : Ops → CellularComplex → (iota1 iota2 : GradedMatrix) → GradedMatrix
composite_iota K E iota1 iota2 k = product K (coordinates E k) (iota1 k) (iota2 k)

-- h1 + iota1 h2 pi1
abbrev pub composite_h : Ops → CellularComplex → (pi1 iota1 h1 h2 : GradedMatrix) → GradedMatrix
composite_h K C pi1 iota1 h1 h2 k =
    let n = coordinates C (suc k) in
    matrix_sum K (h1 k) (product K n (iota1 k) (product K n (h2 k) (pi1 (suc k))))

-- in each degree pi, iota and h are the matrices of the maps p, i and l
pub record AreMatricesOf (K : Ops) (C D : CellularComplex) (p i l : GradedMap) (pi iota h : GradedMatrix) :
    Type 0 where
  pub pi_is : (k : ℕ) → IsMatrixOf K (coordinates D k) (coordinates C k) (p k) (pi k)
  pub iota_is : (k : ℕ) → IsMatrixOf K (coordinates C k) (coordinates D k) (i k) (iota k)
  pub h_is : (k : ℕ) → IsMatrixOf K (coordinates C k) (coordinates C (suc k)) (l k) (h k)
