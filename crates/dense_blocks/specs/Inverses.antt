-- Inverses of blocks, and vectors that show that there is none.
use Rattle.std.specs.Prelude.{◌≡◌, ◌≢◌, ℕ, List}
use Rattle.dense_blocks.specs.Field.{Ops}
use Rattle.dense_blocks.specs.Vectors.{AllScalars, IsVector, zeros}
use Rattle.dense_blocks.specs.Matrices.{image_of}
use Rattle.dense_blocks.specs.MatrixFacts.{IsInverse}
use Rattle.dense_blocks.specs.Blocks.{matrix_of}
use Rattle.dense_blocks.specs.declared.block.Block.{Block}
use Rattle.dense_blocks.specs.declared.inverse.Inverse.{Inverse}
use Rattle.dense_blocks.specs.declared.inverse.Inverse.TheVariants.{Both, Singular}

-- b is a block of a's shape, of scalars, and inverse to a on both sides
pub record IsInverseBlock (K : Ops) (a b : Block) : Type 0 where
  pub rows_are : b.rows ≡ a.rows
  pub columns_are : b.cols ≡ a.cols
  pub scalars : AllScalars K b.entries
  pub inverse : IsInverse K a.rows (matrix_of a) (matrix_of b)

-- v is a vector of n scalars that is not zero, and A v is zero
pub record InKernel (K : Ops) (n : ℕ) (A : List (List ℕ)) (v : List ℕ) : Type 0 where
  pub vector : IsVector K n v
  pub not_zero : v ≢ zeros n
  pub zero : image_of K A v ≡ zeros n

-- the inverse of a square block; where there is none, a vector in the kernel
abbrev pub Inverts : Ops → Block → Inverse → Type 0
Inverts K a (Both b) = IsInverseBlock K a b
Inverts K a (Singular v) = InKernel K a.rows (matrix_of a) v.items
    × ((B : List (List ℕ)) → IsInverse K a.rows (matrix_of a) B → ⊥)
