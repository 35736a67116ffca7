-- The span of a list of vectors.
use Rattle.std.specs.Prelude.{◌≡◌, ℕ, List, length}
use Rattle.dense_blocks.specs.Field.{Ops}
use Rattle.dense_blocks.specs.Vectors.{IsVector, combination}

-- v, a vector of n coordinates, is a linear combination of the vectors
pub record IsCombination (K : Ops) (n : ℕ) (vectors : List (List ℕ)) (v : List ℕ) : Type 0 where
  pub coefficients : List ℕ
  pub one_each : IsVector K (length vectors) coefficients
  pub gives : combination K n coefficients vectors ≡ v
