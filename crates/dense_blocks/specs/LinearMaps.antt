-- Maps of vectors, and their matrices.
use Rattle.std.specs.Prelude.{◌≡◌, ℕ, List}
use Rattle.dense_blocks.specs.Field.{Ops}
use Rattle.dense_blocks.specs.Vectors.{IsVector}
use Rattle.dense_blocks.specs.Matrices.{image_of}
use Rattle.dense_blocks.specs.MatrixFacts.{IsMatrix}

-- A is the matrix of the map f, from vectors of n coordinates to vectors of m: it sends each z to f z
pub record IsMatrixOf (K : Ops) (m n : ℕ) (f : List ℕ → List ℕ) (A : List (List ℕ)) : Type 0 where
  pub shape : IsMatrix K m n A
  pub sends : (z : List ℕ) → IsVector K n z → image_of K A z ≡ f z
