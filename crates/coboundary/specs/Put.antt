-- The start complex as it is built, face by face, and stored.
use Rattle.std.specs.Prelude.{◌≡◌, ℕ, false, List, Option, take}
use Rattle.std.specs.Option.{option_and_then}
use Rattle.cell_complex.specs.Complexes.{CellComplex}
use Rattle.cell_complex.specs.Builds.{with_first_faces}
use Rattle.dense_blocks.specs.Field.{Ops}
use Rattle.dense_blocks.specs.declared.block.Block.{Block}
use Rattle.block_complexes.specs.BlockComplexes.{HaveSameMatrices}
use Rattle.block_sparse.specs.StoredBlocks.{StoredBlocks, StoredBlock, complex_in, block_at, flag_of}
use Rattle.block_sparse.specs.Grids.{as_block}
use Rattle.coboundary.specs.Start.{face_matrix, start_complex}

-- what stands where the blocks of the first n faces have been put
abbrev pub AreFirstPut : Ops → CellComplex → List Block → ℕ → (ℕ → ℕ → Option StoredBlock) → Type 0
AreFirstPut K c blocks n stored = (s t : ℕ) → stored s t ≡ option_and_then as_block
    (face_matrix K (with_first_faces c.dims c.faces n) (take n blocks) s t)

-- the start complex of a sheaf is stored, and no block has its flag set
pub record IsStart (K : Ops) (c : CellComplex) (stalks : List ℕ) (blocks : List Block) (b : StoredBlocks) : Type 0 where
  pub same : HaveSameMatrices (start_complex K c stalks blocks) (complex_in b)
  pub unflagged : (s t : ℕ) → flag_of (block_at b s t) ≡ false
