-- Shapes, negatives, sums and inverses of matrices.
use Rattle.std.specs.Prelude.{◌≡◌, ℕ, zero, suc, List, [], ◌∷◌, length, map, All}
use Rattle.dense_blocks.specs.Field.{Ops}
use Rattle.dense_blocks.specs.Vectors.{IsVector, zeros, plus}
use Rattle.dense_blocks.specs.Matrices.{product}

-- so many rows of so many scalars each
pub record IsMatrix (K : Ops) (rows columns : ℕ) (A : List (List ℕ)) : Type 0 where
  pub size : length A ≡ rows
  pub rows_are : All (IsVector K columns) A

-- the n unit vectors, in order
abbrev pub identity : ℕ → List (List ℕ)
identity zero = []
identity (suc n) = (1 ∷ zeros n) ∷ map (λ row. 0 ∷ row) (identity n)

-- m rows of n zeros
abbrev pub zero_matrix : ℕ → ℕ → List (List ℕ)
zero_matrix zero n = []
zero_matrix (suc m) n = zeros n ∷ zero_matrix m n

-- - v
abbrev pub negative : Ops → List ℕ → List ℕ
negative K v = map K.neg v

-- - A
abbrev pub matrix_negative : Ops → List (List ℕ) → List (List ℕ)
matrix_negative K A = map (negative K) A

-- A + B, row by row
abbrev pub matrix_sum : Ops → List (List ℕ) → List (List ℕ) → List (List ℕ)
matrix_sum K [] B = []
matrix_sum K (a ∷ A) [] = []
matrix_sum K (a ∷ A) (b ∷ B) = plus K a b ∷ matrix_sum K A B

-- B is inverse to A on both sides
pub record IsInverse (K : Ops) (n : ℕ) (A B : List (List ℕ)) : Type 0 where
  pub shape : IsMatrix K n n B
  pub left : product K n B A ≡ identity n
  pub right : product K n A B ≡ identity n
