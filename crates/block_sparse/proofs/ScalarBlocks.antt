-- Blocks of scalars, and what they make of a value.
use Rattle.std.proofs.Common.{◌≡◌, ℕ, zero, suc, ◌<◌, true, false, List, [], ◌∷◌, length, Option, Some, None}
use Rattle.std.proofs.Common.{option_map, All, refl, sym, ap, ap₂, ◌∙◌, subst}
use Rattle.std.specs.Prelude.{◌==◌}
use Rattle.std.specs.List.{list_all}
use Rattle.std.specs.Option.{is_some}
use Rattle.std.proofs.lemmas.Bool.{eqb-true, and_parts}
use Rattle.std.proofs.lemmas.List.Elements.{All-head, All-tail, All-append, All-nil}
use Rattle.dense_blocks.specs.Field.{Ops}
use Rattle.dense_blocks.specs.FieldLaws.{IsField}
use Rattle.dense_blocks.specs.Vectors.{AllScalars, IsVector, zeros}
use Rattle.dense_blocks.specs.Matrices.{image_of}
use Rattle.dense_blocks.specs.MatrixFacts.{zero_matrix}
use Rattle.dense_blocks.specs.Blocks.{matrix_of}
use Rattle.dense_blocks.specs.declared.block.Block.{Block}
use Rattle.dense_blocks.proofs.Cutting.{flat}
use Rattle.dense_blocks.proofs.Shapes.{Vector, Matrix, matrix-rows, to_vector, vector-scalars}
use Rattle.dense_blocks.proofs.BlockLaws.{block-entries, block-matrix, block-size}
use Rattle.dense_blocks.proofs.MatrixLaws.{zero_matrix-matrix, zero_matrix-image_of}
use Rattle.cochain_vec.specs.Complexes.{sum_into, value_at, total_size}
use Rattle.cochain_vec.proofs.PathLaws.{sum_over}
use Rattle.cochain_vec.specs.declared.cell.Cell.{Cell}
use Rattle.cochain_vec.proofs.CoboundaryLaws.{size_at, value-vector}
use Rattle.block_complexes.specs.BlockComplexes.{AreConsecutive, cells, size_of}
use Rattle.block_sparse.specs.StoredBlocks.{StoredBlocks, IsBetween, StoredBlock, StandsAt, block_at, is_zero, matrix}
use Rattle.block_sparse.specs.StoredBlocks.{matrix_or, stored_block, complex_in}
use Rattle.block_complexes.specs.Cochains.{complex_of}
use Rattle.block_sparse.specs.Invariants.{IsSound, is_square}
use Rattle.open_columns.specs.declared.mark.Mark.{Mark}
use Rattle.block_complexes.proofs.SumLaws.{arriving-vector, sum_into-live, sum_over-some}
use Rattle.rising_lists.specs.Rising.{IsRising, entry_of, has}

pub value-scalars : (K : Ops) (cs : List Cell) (z : List ℕ) (s : ℕ) → IsVector K (total_size cs) z
    → AllScalars K (value_at cs z s)
value-scalars K cs z s h = vector-scalars K (size_at cs s) (value_at cs z s)
    (value-vector K cs z s (to_vector K (total_size cs) z h))

pub flat-all : (K : Ops) (A : List (List ℕ)) → All (AllScalars K) A → AllScalars K (flat A)
flat-all K [] h = All-nil (λ a. a < K.order)
flat-all K (r ∷ A) h = All-append (λ a. a < K.order) r (flat A) (All-head (AllScalars K) r A h)
    (flat-all K A (All-tail (AllScalars K) r A h))

-- a matrix whose entries are all 0
zero-list : (K : Ops) (n : ℕ) (v : List ℕ) → Vector K n v → list_all (λ a. a == 0) v ≡ true → v ≡ zeros n
zero-list K zero [] h e = refl
zero-list K zero (a ∷ v) h e = absurd h
zero-list K (suc n) [] h e = absurd h
zero-list K (suc n) (a ∷ v) h e =
    let p = and_parts (a == 0) (list_all (λ a. a == 0) v) e in
    ap₂ ◌∷◌ (eqb-true a 0 p.0) (zero-list K n v h.1 p.1)

pub zero-is : (K : Ops) (m n : ℕ) (A : List (List ℕ)) → Matrix K m n A → is_zero A ≡ true → A ≡ zero_matrix m n
zero-is K zero n [] h e = refl
zero-is K zero n (r ∷ A) h e = absurd h
zero-is K (suc m) n [] h e = absurd h
zero-is K (suc m) n (r ∷ A) h e =
    let p = and_parts (list_all (λ a. a == 0) r) (is_zero A) e in
    ap₂ ◌∷◌ (zero-list K n r h.0 p.0) (zero-is K m n A h.1 p.1)

module _ (K : Ops) (v : StoredBlocks) (s t : ℕ) where
  -- a block that stands has scalars where the matrix has them
  pub block-scalars : (b : Block) → StandsAt v s t b → All (AllScalars K) (matrix v s t) → AllScalars K b.entries
  block-scalars b h all =
      subst (AllScalars K) (ap flat (sym h.is_matrix) ∙ block-entries b) (flat-all K (matrix v s t) all)

  pub matrix-scalars : (b : Block) → StandsAt v s t b → AllScalars K b.entries → All (AllScalars K) (matrix v s t)
  matrix-scalars b h all = subst (All (AllScalars K)) h.is_matrix
      (λ i d l. (matrix-rows K b.rows b.cols (matrix_of b) (block-matrix K b all) i d l).scalars)

  pub block-rows : (b : Block) → StandsAt v s t b → length (matrix_of b) ≡ size_of v.live t
  block-rows b h = block-size b ∙ h.fits.rows

  -- where none stands the matrix is zero
  pub matrix-none : block_at v s t ≡ None → matrix v s t ≡ zero_matrix (size_of v.live t) (size_of v.live s)
  matrix-none e = ap (λ o. matrix_or o (zero_matrix (size_of v.live t) (size_of v.live s))) e

  pub none-scalars : IsField K → block_at v s t ≡ None → All (AllScalars K) (matrix v s t)
  none-scalars F e =
      let m = size_of v.live t in let n = size_of v.live s in
      subst (All (AllScalars K)) (sym (matrix-none e))
      (λ i d l. (matrix-rows K m n (zero_matrix m n) (zero_matrix-matrix K F m n) i d l).scalars)

pub not-block_at : (o : Option StoredBlock) → is_some o ≡ false → o ≡ None
not-block_at None e = refl
not-block_at (Some b) e = cc

zero_matrix-size : (m n : ℕ) → length (zero_matrix m n) ≡ m
zero_matrix-size zero n = refl
zero_matrix-size (suc m) n = ap suc (zero_matrix-size m n)

-- what stands goes between live cells, and has their sizes
module _ (v : StoredBlocks) (sound : IsSound v.live v.rows v.columns) (s t : ℕ) where
  between-live : (o : Option Block) → entry_of v.rows t s ≡ o → is_some (stored_block o (entry_of v.columns s t)) ≡ true
      → AreConsecutive v.live s t
  between-live None e h = cc
  between-live (Some b) e h = (sound.blocks_fit s t b e).between

  pub block_at-between : is_some (block_at v s t) ≡ true → AreConsecutive v.live s t
  block_at-between h = between-live (entry_of v.rows t s) refl h

  -- and is not zero
  pub row-between : is_some (entry_of v.rows t s) ≡ true → IsBetween v s t
  row-between h = go (entry_of v.rows t s) (entry_of v.columns s t) refl refl h
    where
      go : (o : Option Block) (m : Option Mark) → entry_of v.rows t s ≡ o → entry_of v.columns s t ≡ m
          → is_some o ≡ true → IsBetween v s t
      go None m e f h = cc
      go (Some b) m e f h = record {
        between = (sound.blocks_fit s t b e).between;
        nonzero =
            ap₂ (λ o m. is_zero (matrix_or (stored_block o m) (zero_matrix (size_of v.live t) (size_of v.live s)))) e f
            ∙ sound.nonzero s t b e;
      }

  pub column-between : is_some (entry_of v.columns s t) ≡ true → IsBetween v s t
  column-between h = row-between (go (entry_of v.columns s t) (entry_of v.rows t s) (sound.marks s t) h)
    where
      go : (m : Option Mark) (o : Option Block) → option_map (λ m. m.square) m ≡ option_map is_square o
          → is_some m ≡ true → is_some o ≡ true
      go None o e h = cc
      go (Some m) None e h = cc
      go (Some m) (Some b) e h = refl

  pub matrix-size_of : length (matrix v s t) ≡ size_of v.live t
  matrix-size_of = go (entry_of v.rows t s) refl
    where
      go : (o : Option Block) → entry_of v.rows t s ≡ o
          → length (matrix_or (stored_block o (entry_of v.columns s t))
          (zero_matrix (size_of v.live t) (size_of v.live s))) ≡ size_of v.live t
      go None e = zero_matrix-size (size_of v.live t) (size_of v.live s)
      go (Some b) e = block-size b ∙ (sound.blocks_fit s t b e).rows

-- the sum into a live cell, over the cells from which a block comes
pub sum_into-row : (K : Ops) (F : IsField K) (v : StoredBlocks) (sound : IsSound v.live v.rows v.columns)
    (value : ℕ → List ℕ) (t : ℕ) (row : List ℕ)
    → has t (cells v.live) ≡ true → IsRising row → ((s : ℕ) → has s row ≡ is_some (block_at v s t))
    → sum_into K (complex_of (complex_in v)).arrows value (size_of v.live t) t ≡ sum_over K (size_of v.live t)
    (λ s. image_of K (matrix v s t) (value s)) row
sum_into-row K F v sound value t row is_live rises is_row =
    let n = size_of v.live t in
    let sized : (s : ℕ) → length (matrix v s t) ≡ n = λ s. matrix-size_of v sound s t in
    sum_into-live K F (complex_in v) value n t sized sound.live_cells.rising is_live
    ∙ sum_over-some K F n (λ s. image_of K (matrix v s t) (value s)) (cells v.live) row sound.live_cells.rising rises
    (λ s h. (block_at-between v sound s t (sym (is_row s) ∙ h)).from)
    (arriving-vector K F (complex_in v) value n t sized)
    (λ s h. ap (λ A. image_of K A (value s)) (matrix-none K v s t (not-block_at (block_at v s t) (sym (is_row s) ∙ h)))
    ∙ zero_matrix-image_of K F n (size_of v.live s) (value s))
