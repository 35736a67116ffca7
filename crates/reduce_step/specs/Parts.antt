-- What is true of the parts of a footprint.
use Rattle.std.specs.Prelude.{◌≡◌, ◌==◌, ℕ, true, false, List, map, filter, not}
use Rattle.dense_blocks.specs.Blocks.{matrix_of}
use Rattle.dense_blocks.specs.declared.block.Block.{Block}
use Rattle.rising_lists.specs.Rising.{IsRising, has, keys}
use Rattle.block_complexes.specs.BlockComplexes.{size_of}
use Rattle.block_sparse.specs.StoredBlocks.{StoredBlocks, is_zero}
use Rattle.block_sparse.specs.Grids.{width, segment, columns_of, IsJoined}

-- other cells than x on the left and other cells than y below, both rising; a square pivot from x to y; a joined row
-- from the cells on the left to y, and a joined column from x to the cells below, none of whose blocks is zero
pub record AreFootprintParts (x y : ℕ) (left below : List (ℕ × ℕ)) (pivot row column : Block) : Type 0 where
  pub left_rises : IsRising (keys left)
  pub below_rises : IsRising (keys below)
  pub without_x : has x (keys left) ≡ false
  pub without_y : has y (keys below) ≡ false
  pub square : pivot.rows ≡ pivot.cols
  pub row_rows : row.rows ≡ pivot.rows
  pub row_cols : row.cols ≡ width left
  pub column_rows : column.rows ≡ width below
  pub column_cols : column.cols ≡ pivot.cols
  pub row_blocks : (s : ℕ) → has s (keys left) ≡ true → is_zero (columns_of left (matrix_of row) s) ≡ false
  pub column_blocks : (t : ℕ) → has t (keys below) ≡ true → is_zero (segment below (matrix_of column) t) ≡ false

-- the cells but one, each with its size
abbrev pub sized_others : List (ℕ × ℕ × ℕ) → List ℕ → ℕ → List (ℕ × ℕ)
sized_others live there but = map (λ c. (c, size_of live c)) (filter (λ c. not (c == but)) there)

-- the joined matrix of the blocks from the cells on the left to those below, with its shape
pub record IsJoinedBlock (v : StoredBlocks) (left below : List (ℕ × ℕ)) (b : Block) : Type 0 where
  pub cols : b.cols ≡ width left
  pub rows : b.rows ≡ width below
  pub parts : IsJoined v left below (matrix_of b)
