-- A record put into the blocks of its footprint is a removal.
use Rattle.std.proofs.Common.{◌≡◌, ℕ, zero, suc, true, false, List, [], ◌∷◌, length, Option, Some, None, ap, sym, ◌∙◌}
use Rattle.std.proofs.Common.{subst, arith}
use Rattle.std.specs.Option.{is_some}
use Rattle.dense_blocks.specs.Field.{Ops}
use Rattle.dense_blocks.specs.FieldLaws.{IsField}
use Rattle.dense_blocks.specs.Blocks.{matrix_of}
use Rattle.dense_blocks.specs.MatrixFacts.{IsInverse}
use Rattle.dense_blocks.specs.declared.block.Block.{Block}
use Rattle.dense_blocks.proofs.BlockLaws.{block-size}
use Rattle.dense_blocks.proofs.Cutting.{Sized, matrix-sized}
use Rattle.rising_lists.specs.Rising.{entry_of}
use Rattle.open_columns.specs.declared.mark.Mark.{Mark}
use Rattle.block_complexes.specs.BlockComplexes.{size_of, IsBlockComplex}
use Rattle.block_sparse.specs.StoredBlocks.{StoredBlocks, stored_block, is_zero, block_at, matrix, complex_in}
use Rattle.block_sparse.specs.Grids.{part}
use Rattle.block_sparse.specs.Invariants.{IsSound}
use Rattle.block_sparse.proofs.ScalarBlocks.{row-between, matrix-size_of}
use Rattle.block_sparse.proofs.Windows.{sized-cut}
use Rattle.removals.specs.Removals.{IsRemoval}
use Rattle.block_sparse.specs.Flags.{KeepsFlags}
use Rattle.block_sparse.proofs.StoredLaws.{block_complex-full}
use Rattle.reduce_step.proofs.JoinedCorners.{AreAround, part-schur_complement}
use Rattle.reduce_step.proofs.AppliedLaws.{AreStages, IsApplied, image_of-removal, image_of-flags}
use Rattle.reduce_step.specs.declared.footprint.Footprint.{Footprint}
use Rattle.reduce_step.specs.Footprints.{IsFootprint}
use Rattle.reduce_step.specs.Records.{IsRecord}

-- a matrix that is not zero has one width
one-width : (m n p q : ℕ) (A : List (List ℕ)) → is_zero A ≡ false → Sized m n A → Sized p q A → n ≡ q
one-width m n p q [] e h k = cc
one-width zero n p q (r ∷ A) e h k = absurd h
one-width (suc m) n zero q (r ∷ A) e h k = absurd k
one-width (suc m) n (suc p) q (r ∷ A) e h k = sym h.0 ∙ k.0

pub block-block_at : (o : Option Block) (m : Option Mark) → is_some (stored_block o m) ≡ true → is_some o ≡ true
block-block_at None m e = e
block-block_at (Some b) m e = e

-- a record whose footprint stands
module _ (K : Ops) (F : IsField K) (v : StoredBlocks) (sound : IsSound v.live v.rows v.columns)
    (over : IsBlockComplex K (complex_in v)) (foot : Footprint)
    (stands : is_some (block_at v foot.x foot.y) ≡ true) (is : IsFootprint v foot.x foot.y foot) where
  pivot-rows : foot.pivot.rows ≡ size_of v.live foot.y
  pivot-rows = sym (block-size foot.pivot) ∙ ap length is.pivot ∙ matrix-size_of v sound foot.x foot.y

  pivot-cols : foot.pivot.cols ≡ size_of v.live foot.x
  pivot-cols =
      let m = size_of v.live foot.y in
      let n = size_of v.live foot.x in
      let b = foot.pivot in
      let nonzero : is_zero (matrix v foot.x foot.y) ≡ false =
      (row-between v sound foot.x foot.y
      (block-block_at (entry_of v.rows foot.y foot.x) (entry_of v.columns foot.x foot.y) stands)).nonzero in
      one-width b.rows b.cols m n (matrix v foot.x foot.y) nonzero
      (subst (Sized b.rows b.cols) is.pivot (sized-cut b.rows b.cols b.entries (omega (arith, b.full))))
      (matrix-sized K m n (matrix v foot.x foot.y) ((block_complex-full K F v sound over).shape foot.x foot.y))

  pivot-square : size_of v.live foot.y ≡ size_of v.live foot.x
  pivot-square = sym pivot-rows ∙ foot.parts.square ∙ pivot-cols

  around : AreAround v foot.left foot.below foot.x foot.y (size_of v.live foot.y) (size_of v.live foot.x) foot.corners
      foot.column foot.row
  around = record {
    sized = is.left_sized;
    corners_are = is.corners;
    corners_cols = foot.corner_cols;
    column_is = is.column;
    column_cols = foot.parts.column_cols ∙ pivot-cols;
    row_is = is.row;
    row_rows = foot.parts.row_rows ∙ pivot-rows;
  }

  -- once the new corners are put and x and y are taken out, the record is applied
  record-image_of : (inverse new_corners : Block) → IsRecord K foot inverse new_corners → (grid first w : StoredBlocks)
      → AreStages v grid first w foot.x foot.y foot.left foot.below (matrix_of new_corners)
      → IsApplied K v foot.x foot.y (matrix_of inverse) foot.left foot.below (matrix_of new_corners) grid first w
  record-image_of inverse new_corners r grid first w steps =
      let a = matrix_of inverse in
      record {
        listed = record { stands = stands; on_left = is.left; is_below = is.below };
        square = pivot-square;
        inverse =
            subst (λ A. IsInverse K (size_of v.live foot.x) A a) is.pivot
            (subst (λ n. IsInverse K n (matrix_of foot.pivot) a) (pivot-rows ∙ pivot-square) r.inverse_is.inverse);
        corners = λ s t hs ht.
            ap (λ N. part foot.left foot.below N s t) r.new_corners_are.matrix_is
            ∙ part-schur_complement K v foot.left foot.below foot.x foot.y (size_of v.live foot.y)
            (size_of v.live foot.x) foot.corners foot.column foot.row a around s t hs ht;
        steps = steps;
      }

  module _ (inverse new_corners : Block) (r : IsRecord K foot inverse new_corners) (left below : List (ℕ × ℕ))
      (on_left : left ≡ foot.left) (is_below : below ≡ foot.below)
      (grid first w : StoredBlocks) (steps : AreStages v grid first w foot.x foot.y left below (matrix_of new_corners))
    where
      applied : IsApplied K v foot.x foot.y (matrix_of inverse) foot.left foot.below (matrix_of new_corners) grid first
          w
      applied =
          record-image_of inverse new_corners r grid first w
          (subst (λ l. AreStages v grid first w foot.x foot.y l foot.below (matrix_of new_corners)) on_left
          (subst (λ l. AreStages v grid first w foot.x foot.y left l (matrix_of new_corners)) is_below steps))

      pub record-removed : IsRemoval K (complex_in v) foot.x foot.y (matrix_of inverse) (complex_in w)
          × KeepsFlags v foot.x foot.y w
      record-removed =
          let a = matrix_of inverse in
          let N = matrix_of new_corners in (
            image_of-removal K F v sound over foot.x foot.y a foot.left foot.below N grid first w applied,
            image_of-flags K F v sound over foot.x foot.y a foot.left foot.below N grid first w applied,
          )
