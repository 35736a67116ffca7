-- Lists of blocks, one for each degree.
use Rattle.std.specs.Prelude.{◌≡◌, ℕ, List, [], Some, slice_get}
use Rattle.std.specs.Option.{option_map_or}
use Rattle.dense_blocks.specs.Field.{Ops}
use Rattle.dense_blocks.specs.Vectors.{AllScalars}
use Rattle.dense_blocks.specs.Blocks.{matrix_of}
use Rattle.dense_blocks.specs.declared.block.Block.{Block}
use Rattle.equivalence_laws.specs.Equivalences.{GradedMatrix}

-- m rows and n columns of scalars
pub record IsBlockOver (K : Ops) (m n : ℕ) (b : Block) : Type 0 where
  pub rows_are : b.rows ≡ m
  pub columns_are : b.cols ≡ n
  pub scalars : AllScalars K b.entries

-- the same, and its matrix is A
pub record HoldsMatrix (K : Ops) (m n : ℕ) (A : List (List ℕ)) (b : Block) : Type 0 where
  pub shape : IsBlockOver K m n b
  pub matrix_is : matrix_of b ≡ A

-- block k is one of scalars, with as many rows and columns as these say of degree k
abbrev pub AreBlocksOver : Ops → (rows columns : ℕ → ℕ) → List Block → Type 0
AreBlocksOver K rows columns blocks = (k : ℕ) (b : Block) → slice_get blocks k ≡ Some b
    → IsBlockOver K (rows k) (columns k) b
