-- Blocks seen as matrices.
use Rattle.std.specs.Prelude.{ℕ, List}
use Rattle.dense_blocks.specs.Matrices.{cut}
use Rattle.dense_blocks.specs.declared.block.Block.{Block}

-- the list of a block's rows
abbrev pub matrix_of : Block → List (List ℕ)
matrix_of b = cut b.rows b.cols b.entries

-- a matrix, written row after row
pub record WrittenMatrix : Type 0 where
  pub rows : ℕ
  pub cols : ℕ
  pub entries : List ℕ

abbrev pub written_matrix : Block → WrittenMatrix
written_matrix b = record { rows = b.rows; cols = b.cols; entries = b.entries }
