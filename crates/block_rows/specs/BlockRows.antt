-- Rows of blocks: the entries of the blocks of one entry by cell, and larger blocks beside them.
use Rattle.std.specs.Prelude.{◌≡◌, ◌<◌, ◌≤◌, ℕ, List, [], ◌∷◌, length, slice_index_or, unwrap_or, refl}
use Rattle.dense_blocks.specs.declared.block.Block.{Block}
use Rattle.rising_lists.specs.Rising.{ByCell, entry}
use native.Mathlib.Bridge.{IsLe, le_by_compare}

-- a block may have one row, or one column
pub one_fits : 1 ≤ 4096
unfolding IsLe
one_fits = le_by_compare 1 4096 tt

-- the block of one entry
abbrev pub scalar_block : ℕ → Block
scalar_block e = record {
  rows = 1;
  cols = 1;
  entries = e ∷ [];
  rows_fit = one_fits;
  cols_fit = one_fits;
  full = refl;
}

-- there are n blocks, and each is that of its place
pub record AreScalarBlocks (blocks : List Block) (n : ℕ) : Type 0 where
  pub count : length blocks ≡ n
  pub each : (e : ℕ) (d : Block) → e < n → slice_index_or blocks e d ≡ scalar_block e

-- the larger block at a cell; where none stands, that of this entry
abbrev pub block_or : ByCell Block → ℕ → ℕ → Block
block_or larger c e = unwrap_or (entry larger c) (scalar_block e)

-- the blocks at some cells with these entries, where larger ones stand beside
abbrev pub blocks_of : List ℕ → List ℕ → ByCell Block → List Block
blocks_of [] es larger = []
blocks_of (c ∷ cs) [] larger = []
blocks_of (c ∷ cs) (e ∷ es) larger = block_or larger c e ∷ blocks_of cs es larger

-- the blocks by cell that some entries and some larger blocks make
abbrev pub row_of : ByCell ℕ → ByCell Block → ByCell Block
row_of entries larger = record { cells = entries.cells; values = blocks_of entries.cells entries.values larger }
