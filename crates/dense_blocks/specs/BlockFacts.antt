-- A block by its shape and its matrix.
use Rattle.std.specs.Prelude.{◌≡◌, ℕ, List}
use Rattle.dense_blocks.specs.declared.block.Block.{Block}
use Rattle.dense_blocks.specs.Blocks.{matrix_of}

-- the block has so many rows and so many columns, and its rows are those of A
pub record IsBlock (b : Block) (rows columns : ℕ) (A : List (List ℕ)) : Type 0 where
  pub rows_are : b.rows ≡ rows
  pub columns_are : b.cols ≡ columns
  pub matrix_is : matrix_of b ≡ A
