-- A stored block complex has a matrix of the right shape at all pairs of cells, live or not.
use Rattle.std.proofs.Common.{◌≡◌, ◌≢◌, ℕ, ◌+◌, Bool, true, false, Option, Some, None, All, refl, subst, sym, cond}
use Rattle.std.proofs.Common.{List}
use Rattle.std.specs.Option.{is_some}
use Rattle.dense_blocks.specs.Field.{Ops}
use Rattle.dense_blocks.specs.FieldLaws.{IsField}
use Rattle.dense_blocks.specs.Vectors.{AllScalars}
use Rattle.dense_blocks.specs.MatrixFacts.{zero_matrix}
use Rattle.dense_blocks.specs.Blocks.{matrix_of}
use Rattle.dense_blocks.specs.declared.block.Block.{Block}
use Rattle.dense_blocks.proofs.Shapes.{Matrix}
use Rattle.dense_blocks.proofs.BlockLaws.{block-entries, block-matrix}
use Rattle.dense_blocks.proofs.MatrixLaws.{zero_matrix-matrix}
use Rattle.rising_lists.specs.Rising.{entry_of}
use Rattle.block_complexes.specs.BlockComplexes.{AreBothLive, IsBlockComplex, degree_of, size_of}
use Rattle.block_complexes.proofs.FullLaws.{IsFull, full-block_complex}
use Rattle.block_sparse.specs.StoredBlocks.{StoredBlocks, StandsAt, complex_in, block_at, matrix, matrix_or}
use Rattle.block_sparse.specs.StoredBlocks.{stored_block, is_zero, flag_of}
use Rattle.block_sparse.specs.Invariants.{IsSound}
use Rattle.block_sparse.proofs.ScalarBlocks.{zero-is, block-scalars, flat-all, block_at-between, matrix-none}
use Rattle.block_sparse.proofs.ScalarBlocks.{none-scalars, not-block_at}
use Rattle.block_sparse.specs.Grids.{as_block}

-- the matrix of what is put, where it is zero too
pub matrix-as_block : (K : Ops) (m n : ℕ) (A : List (List ℕ)) → Matrix K m n A
    → matrix_or (as_block A) (zero_matrix m n) ≡ A
matrix-as_block K m n A h = go (is_zero A) refl
  where
    go : (b : Bool) → is_zero A ≡ b → matrix_or (cond b None (Some (record { matrix = A; flagged = false })))
        (zero_matrix m n) ≡ A
    go true e = sym (zero-is K m n A h e)
    go false e = refl

pub flag-as_block : (A : List (List ℕ)) → flag_of (as_block A) ≡ false
flag-as_block A = elim (is_zero A) as (λ b. flag_of (cond b None (Some (record { matrix = A; flagged = false })))
    ≡ false) [ true ↦ refl | false ↦ refl ]

-- between live cells the entries are scalars
pub live-scalars : (K : Ops) (v : StoredBlocks) → IsBlockComplex K (complex_in v) → (s t : ℕ) → AreBothLive v.live s t
    → All (AllScalars K) (matrix v s t)
live-scalars K v is s t l i d m = ((is.matrices s t l).rows_are i d m).scalars

pub standing-scalars : (K : Ops) (v : StoredBlocks) → IsBlockComplex K (complex_in v) → (s t : ℕ) (b : Block)
    → StandsAt v s t b → AllScalars K b.entries
standing-scalars K v is s t b h =
    block-scalars K v s t b h (live-scalars K v is s t (record { from = h.fits.between.from; to = h.fits.between.to }))

module _ (K : Ops) (F : IsField K) (v : StoredBlocks) (sound : IsSound v.live v.rows v.columns) where
  abbrev size : ℕ → ℕ
  size c = size_of v.live c

  -- and so they are at all cells
  pub all-scalars : IsBlockComplex K (complex_in v) → (s t : ℕ) → All (AllScalars K) (matrix v s t)
  all-scalars is s t = go (is_some (block_at v s t)) refl
    where
      go : (b : Bool) → is_some (block_at v s t) ≡ b → All (AllScalars K) (matrix v s t)
      go true e = let pair = block_at-between v sound s t e in
          live-scalars K v is s t (record { from = pair.from; to = pair.to })
      go false e = none-scalars K v s t F (not-block_at (block_at v s t) e)

  shape : ((s t : ℕ) → All (AllScalars K) (matrix v s t)) → (s t : ℕ) → Matrix K (size t) (size s) (matrix v s t)
  shape over s t = go (entry_of v.rows t s) refl (over s t)
    where
      go : (o : Option Block) → entry_of v.rows t s ≡ o
          → All (AllScalars K) (matrix_or (stored_block o (entry_of v.columns s t)) (zero_matrix (size t) (size s)))
          → Matrix K (size t) (size s)
          (matrix_or (stored_block o (entry_of v.columns s t)) (zero_matrix (size t) (size s)))
      go None e all = zero_matrix-matrix K F (size t) (size s)
      go (Some b) e all =
          let fit = sound.blocks_fit s t b e in
          subst (λ n. Matrix K (size t) n (matrix_of b)) fit.cols
          (subst (λ m. Matrix K m b.cols (matrix_of b)) fit.rows
          (block-matrix K b (subst (AllScalars K) (block-entries b) (flat-all K (matrix_of b) all))))

  matrix-zero : (s t : ℕ) → degree_of v.live t ≢ degree_of v.live s + 1 → matrix v s t ≡ zero_matrix (size t) (size s)
  matrix-zero s t n = go (is_some (block_at v s t)) refl
    where
      go : (b : Bool) → is_some (block_at v s t) ≡ b → matrix v s t ≡ zero_matrix (size t) (size s)
      go true e = absurd (n (block_at-between v sound s t e).degrees)
      go false e = matrix-none K v s t (not-block_at (block_at v s t) e)

  stored-full : ((s t : ℕ) → All (AllScalars K) (matrix v s t)) → IsFull K (complex_in v)
  stored-full over = record {
    rising = sound.live_cells.rising;
    sizes = sound.live_cells.sizes;
    shape = shape over;
    apart = matrix-zero;
  }

  pub stored-block_complex : ((s t : ℕ) → All (AllScalars K) (matrix v s t)) → IsBlockComplex K (complex_in v)
  stored-block_complex over = full-block_complex K (complex_in v) (stored-full over)

  pub block_complex-full : IsBlockComplex K (complex_in v) → IsFull K (complex_in v)
  block_complex-full is = stored-full (all-scalars is)
