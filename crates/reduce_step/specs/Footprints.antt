-- What a footprint copies, and its field.
use Rattle.std.specs.Prelude.{◌≡◌, ◌==◌, ◌&&◌, ℕ, [], ◌∷◌, not, is_some}
use Rattle.dense_blocks.specs.Field.{Ops}
use Rattle.dense_blocks.specs.Vectors.{AllScalars}
use Rattle.dense_blocks.specs.Blocks.{matrix_of}
use Rattle.rising_lists.specs.Rising.{has, keys}
use Rattle.block_complexes.specs.BlockComplexes.{size_of}
use Rattle.block_sparse.specs.StoredBlocks.{StoredBlocks, block_at, matrix}
use Rattle.block_sparse.specs.Grids.{AreSized, IsJoined}
use Rattle.reduce_step.specs.declared.footprint.Footprint.{Footprint}

-- the footprint of the pair (x, y): on the left the other cells with a nonzero block to y, below the other cells with a
-- nonzero block from x, each with its size; the block from x to y, and the joined matrices of the blocks from the left
-- to y, from x to below, and from the left to below
pub record IsFootprint (v : StoredBlocks) (x y : ℕ) (foot : Footprint) : Type 0 where
  pub from : foot.x ≡ x
  pub to : foot.y ≡ y
  pub left : (s : ℕ) → has s (keys foot.left) ≡ (is_some (block_at v s y) && not (s == x))
  pub below : (t : ℕ) → has t (keys foot.below) ≡ (is_some (block_at v x t) && not (t == y))
  pub left_sized : AreSized v.live foot.left
  pub below_sized : AreSized v.live foot.below
  pub pivot : matrix_of foot.pivot ≡ matrix v x y
  pub row : IsJoined v foot.left ((y, size_of v.live y) ∷ []) (matrix_of foot.row)
  pub column : IsJoined v ((x, size_of v.live x) ∷ []) foot.below (matrix_of foot.column)
  pub corners : IsJoined v foot.left foot.below (matrix_of foot.corners)

-- all entries are scalars of the field
pub record IsOverField (K : Ops) (foot : Footprint) : Type 0 where
  pub pivot : AllScalars K foot.pivot.entries
  pub row : AllScalars K foot.row.entries
  pub column : AllScalars K foot.column.entries
  pub corners : AllScalars K foot.corners.entries
