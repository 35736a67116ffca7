-- Block complexes as they are stored: only nonzero blocks take room, by rows; columns note them, with flags.
use Rattle.std.specs.Prelude.{◌≡◌, ◌≤◌, ◌==◌, ℕ, All, Bool, true, false, List, Option, Some, None, is_some}
use Rattle.std.specs.List.{list_all}
use Rattle.dense_blocks.specs.MatrixFacts.{zero_matrix}
use Rattle.dense_blocks.specs.Blocks.{matrix_of}
use Rattle.dense_blocks.specs.declared.block.Block.{Block}
use Rattle.rising_lists.specs.Rising.{ByCell, IsRising, entry_of}
use Rattle.open_columns.specs.declared.mark.Mark.{Mark}
use Rattle.block_complexes.specs.BlockComplexes.{BlockComplex, AreConsecutive, cells, size_of, live_size}

-- the live cells, each with its degree and its size; for each cell t the blocks that go to it, by the cells s that they
-- come from; and for each s what is noted of those that come from it, by t
pub record StoredBlocks : Type 0 where
  pub live : List (ℕ × ℕ × ℕ)
  pub rows : ByCell (ByCell Block)
  pub columns : ByCell (ByCell Mark)

-- a nonzero block that stands at a pair of cells
pub record StoredBlock : Type 0 where
  pub matrix : List (List ℕ)
  pub flagged : Bool

abbrev pub is_flagged : Option Mark → Bool
is_flagged None = false
is_flagged (Some m) = m.flagged

abbrev pub stored_block : Option Block → Option Mark → Option StoredBlock
stored_block None m = None
stored_block (Some b) m = Some (record { matrix = matrix_of b; flagged = is_flagged m })

-- the finite map from pairs of cells to nonzero blocks with flags
abbrev pub block_at : StoredBlocks → ℕ → ℕ → Option StoredBlock
block_at v s t = stored_block (entry_of v.rows t s) (entry_of v.columns s t)

-- the block's matrix, or another where none stands
abbrev pub matrix_or : Option StoredBlock → List (List ℕ) → List (List ℕ)
matrix_or None A = A
matrix_or (Some b) A = b.matrix

-- the matrix from s to t, for each ordered pair of cells: zero where no block stands
abbrev pub matrix : StoredBlocks → ℕ → ℕ → List (List ℕ)
matrix v s t = matrix_or (block_at v s t) (zero_matrix (size_of v.live t) (size_of v.live s))

-- the block complex that is stored: its live cells, and these matrices; flags are left out
abbrev pub complex_in : StoredBlocks → BlockComplex
complex_in v = record { live = v.live; matrix = λ s t. matrix v s t }

abbrev pub flag_of : Option StoredBlock → Bool
flag_of None = false
flag_of (Some b) = b.flagged

-- the same block with its flag set
abbrev pub with_flag : Option StoredBlock → Option StoredBlock
with_flag None = None
with_flag (Some b) = Some (record b { flagged = true })

-- every entry is 0
abbrev pub is_zero : List (List ℕ) → Bool
is_zero A = list_all (λ row. list_all (λ a. a == 0) row) A

-- cells may be live with these degrees and sizes, which fit their types
pub record AreLive (live : List (ℕ × ℕ × ℕ)) : Type 0 where
  pub rising : IsRising (cells live)
  pub degrees : All (λ l. l.1 ≤ 15) live
  pub sizes : All (λ l. 1 ≤ l.2) live
  pub total : live_size live ≤ 4096

-- a block that may be put at a pair of cells
pub record FitsPair (live : List (ℕ × ℕ × ℕ)) (s t : ℕ) (b : Block) : Type 0 where
  pub between : AreConsecutive live s t
  pub rows : b.rows ≡ size_of live t
  pub cols : b.cols ≡ size_of live s

-- the block stands at a pair of cells
pub record StandsAt (v : StoredBlocks) (s t : ℕ) (b : Block) : Type 0 where
  pub fits : FitsPair v.live s t b
  pub stands : is_some (block_at v s t) ≡ true
  pub is_matrix : matrix_of b ≡ matrix v s t
  pub nonzero : is_zero (matrix_of b) ≡ false

-- a nonzero matrix goes between live cells of consecutive degree
pub record IsBetween (v : StoredBlocks) (s t : ℕ) : Type 0 where
  pub between : AreConsecutive v.live s t
  pub nonzero : is_zero (matrix v s t) ≡ false
