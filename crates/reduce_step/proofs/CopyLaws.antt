-- What a copy of the row and the column of a pair has.
use Rattle.std.proofs.Common.{◌≡◌, ℕ, true, ◌&&◌, List, [], ◌∷◌, refl, sym, ap, ◌∙◌, arith}
use Rattle.std.specs.Prelude.{◌==◌, not}
use Rattle.std.specs.Option.{is_some}
use Rattle.dense_blocks.specs.Field.{Ops}
use Rattle.dense_blocks.specs.Vectors.{AllScalars}
use Rattle.dense_blocks.specs.declared.block.Block.{Block}
use Rattle.rising_lists.specs.Rising.{IsRising, has, keys}
use Rattle.block_complexes.specs.BlockComplexes.{size_of, IsBlockComplex}
use Rattle.block_sparse.specs.StoredBlocks.{StoredBlocks, IsBetween, StandsAt, block_at, is_zero, complex_in}
use Rattle.block_sparse.proofs.StoredLaws.{standing-scalars}
use Rattle.block_complexes.proofs.Sums.{has-head}
use Rattle.reduce_step.proofs.JoinedScalars.{AreAllLive, sized-live, one-live, joined-scalars}
use Rattle.reduce_step.specs.declared.footprint.Footprint.{Footprint}
use Rattle.reduce_step.specs.Footprints.{IsFootprint, IsOverField}
use Rattle.reduce_step.specs.Parts.{AreFootprintParts, IsJoinedBlock, sized_others}
use Rattle.reduce_step.proofs.ListLaws.{AreListed, others-has, others-there, others-without, one-rises}
use Rattle.reduce_step.proofs.PartLaws.{row-part, column-part}

-- the cells of row y and of column x, and what was copied of them
pub record IsCopy (v : StoredBlocks) (x y : ℕ) (in_row in_column : List ℕ) (left below : List (ℕ × ℕ))
    (pivot row column corners : Block) : Type 0 where
  pub row_has : (s : ℕ) → has s in_row ≡ is_some (block_at v s y)
  pub row_blocks : (s : ℕ) → has s in_row ≡ true → IsBetween v s y
  pub column_has : (t : ℕ) → has t in_column ≡ is_some (block_at v x t)
  pub column_blocks : (t : ℕ) → has t in_column ≡ true → IsBetween v x t
  pub left_is : left ≡ sized_others v.live in_row x
  pub left_listed : AreListed v.live left
  pub below_is : below ≡ sized_others v.live in_column y
  pub below_listed : AreListed v.live below
  pub stands : StandsAt v x y pivot
  pub square : size_of v.live y ≡ size_of v.live x
  pub row_is : IsJoinedBlock v left ((y, size_of v.live y) ∷ []) row
  pub column_is : IsJoinedBlock v ((x, size_of v.live x) ∷ []) below column
  pub corners_are : IsJoinedBlock v left below corners

pub copy-parts : {v : StoredBlocks} {x y : ℕ} {in_row in_column : List ℕ} {left below : List (ℕ × ℕ)}
    {pivot row column corners : Block}
    → IsCopy v x y in_row in_column left below pivot row column corners → AreFootprintParts x y left below pivot row
    column
copy-parts {v} {x} {y} {in_row} {in_column} {left} {below} {pivot} {row} {column} {corners} h =
    let m : ℕ = size_of v.live y in
    let n : ℕ = size_of v.live x in
    let rows : row.rows ≡ m = omega (arith, h.row_is.rows) in
    let cols : column.cols ≡ n = omega (arith, h.column_is.cols) in
    record {
      left_rises = h.left_listed.rise;
      below_rises = h.below_listed.rise;
      without_x = others-without v.live in_row x left h.left_is;
      without_y = others-without v.live in_column y below h.below_is;
      square = h.stands.fits.rows ∙ h.square ∙ sym h.stands.fits.cols;
      row_rows = rows ∙ sym h.stands.fits.rows;
      row_cols = h.row_is.cols;
      column_rows = h.column_is.rows;
      column_cols = cols ∙ sym h.stands.fits.cols;
      row_blocks = λ s l.
          ap is_zero (sym (row-part left y m row s rows) ∙ h.row_is.parts s y l (has-head y []))
          ∙ (h.row_blocks s (others-there v.live in_row x left h.left_is s l)).nonzero;
      column_blocks = λ t l.
          ap is_zero (sym (column-part x n below column t cols) ∙ h.column_is.parts x t (has-head x []) l)
          ∙ (h.column_blocks t (others-there v.live in_column y below h.below_is t l)).nonzero;
    }

module _ (v : StoredBlocks) (in_row in_column : List ℕ) (foot : Footprint)
    (h : IsCopy v foot.x foot.y in_row in_column foot.left foot.below foot.pivot foot.row foot.column foot.corners)
  where
    pub copy-footprint : IsFootprint v foot.x foot.y foot
    copy-footprint = record {
      from = refl;
      to = refl;
      left = λ s.
          others-has v.live in_row foot.x foot.left h.left_is s ∙ ap (λ b. b && not (s == foot.x)) (h.row_has s);
      below = λ t. others-has v.live in_column foot.y foot.below h.below_is t
          ∙ ap (λ b. b && not (t == foot.y)) (h.column_has t);
      left_sized = h.left_listed.sized;
      below_sized = h.below_listed.sized;
      pivot = h.stands.is_matrix;
      row = h.row_is.parts;
      column = h.column_is.parts;
      corners = h.corners_are.parts;
    }

    joined-over : (K : Ops) → IsBlockComplex K (complex_in v) → (left below : List (ℕ × ℕ)) (b : Block)
        → IsRising (keys left) → IsRising (keys below)
        → AreAllLive v.live left → AreAllLive v.live below → IsJoinedBlock v left below b → AllScalars K b.entries
    joined-over K over left below b l m p q j = joined-scalars K v left below b over l m p q j.cols j.rows j.parts

    pub copy-over : (K : Ops) → IsBlockComplex K (complex_in v) → IsOverField K foot
    copy-over K over =
        let on_left = sized-live v.live foot.left h.left_listed.sized in
        let is_below = sized-live v.live foot.below h.below_listed.sized in
        let from_x = one-live v.live foot.x (size_of v.live foot.x) h.stands.fits.between.from in
        let to_y = one-live v.live foot.y (size_of v.live foot.y) h.stands.fits.between.to in
        record {
          pivot = standing-scalars K v over foot.x foot.y foot.pivot h.stands;
          row = joined-over K over foot.left ((foot.y, size_of v.live foot.y) ∷ []) foot.row foot.parts.left_rises
              (one-rises foot.y) on_left to_y h.row_is;
          column = joined-over K over ((foot.x, size_of v.live foot.x) ∷ []) foot.below foot.column (one-rises foot.x)
              foot.parts.below_rises from_x is_below h.column_is;
          corners = joined-over K over foot.left foot.below foot.corners foot.parts.left_rises foot.parts.below_rises
              on_left is_below h.corners_are;
        }
