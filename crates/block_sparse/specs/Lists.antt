-- Blocks put one after another.
use Rattle.std.specs.Prelude.{◌≡◌, ◌≢◌, ◌==◌, ◌&&◌, ◌<◌, ℕ, List, [], ◌∷◌, Option, if◌then◌else◌, length, slice_index}
use Rattle.dense_blocks.specs.Blocks.{matrix_of}
use Rattle.dense_blocks.specs.declared.block.Block.{Block}
use Rattle.block_sparse.specs.StoredBlocks.{StoredBlock}
use Rattle.block_sparse.specs.Grids.{as_block}

-- the block has this entry and no other, and its cell is behind those of a row
pub record IsLastEntry (row : List ℕ) (s : ℕ) (b : Block) (entry : ℕ) : Type 0 where
  pub one_row : b.rows ≡ 1
  pub one_column : b.cols ≡ 1
  pub matrix : matrix_of b ≡ (entry ∷ []) ∷ []
  pub nonzero : entry ≢ 0
  pub behind : (i : ℕ) → i < length row → slice_index row i < s

-- what stands once a matrix has been put at a pair of cells
abbrev pub with_block : (ℕ → ℕ → Option StoredBlock) → ℕ → ℕ → List (List ℕ) → ℕ → ℕ → Option StoredBlock
with_block blocks s t A p q = if p == s && q == t then as_block A else blocks p q

-- the same once each block of the list has been put, in order
abbrev pub with_blocks : (ℕ → ℕ → Option StoredBlock) → List (ℕ × ℕ × Block) → ℕ → ℕ → Option StoredBlock
with_blocks blocks [] p q = blocks p q
with_blocks blocks (m ∷ ms) p q = with_blocks (with_block blocks m.0 m.1 (matrix_of m.2)) ms p q
