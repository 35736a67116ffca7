-- What is true of the lists of rows and columns of a block complex.
use Rattle.std.specs.Prelude.{◌≡◌, ◌==◌, ℕ, Bool, true, false, List, Some, option_map, unwrap_or}
use Rattle.dense_blocks.specs.Blocks.{matrix_of}
use Rattle.dense_blocks.specs.declared.block.Block.{Block}
use Rattle.rising_lists.specs.Rising.{ByCell, has, entry, entry_of}
use Rattle.open_columns.specs.declared.mark.Mark.{Mark}
use Rattle.block_complexes.specs.BlockComplexes.{cells, size_of}
use Rattle.block_sparse.specs.StoredBlocks.{FitsPair, is_zero, AreLive}

abbrev pub is_square : Block → Bool
is_square b = b.rows == b.cols

-- each live cell has a row and a column; the columns note of each block in a row whether it is square; a block in a row
-- goes between live cells of consecutive degree, has their sizes, and is not zero
pub record IsSound (live : List (ℕ × ℕ × ℕ)) (rows : ByCell (ByCell Block)) (columns : ByCell (ByCell Mark)) :
    Type 0 where
  pub live_cells : AreLive live
  pub has_row : (c : ℕ) → has c (cells live) ≡ true → has c rows.cells ≡ true
  pub has_column : (c : ℕ) → has c (cells live) ≡ true → has c columns.cells ≡ true
  pub marks : (s t : ℕ) → option_map (λ m. m.square) (entry_of columns s t) ≡ option_map is_square (entry_of rows t s)
  pub blocks_fit : (s t : ℕ) (b : Block) → entry_of rows t s ≡ Some b → FitsPair live s t b
  pub nonzero : (s t : ℕ) (b : Block) → entry_of rows t s ≡ Some b → is_zero (matrix_of b) ≡ false

-- the values are the sizes of the live cells; where there is none, or 0, the cell is not live
abbrev pub AreSizes : List (ℕ × ℕ × ℕ) → ByCell ℕ → Type 0
AreSizes live sizes = (c : ℕ) → unwrap_or (entry sizes c) 0 ≡ size_of live c
