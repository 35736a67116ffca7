-- Records: footprints with an inverse of the pivot.
use Rattle.std.specs.Prelude.{ℕ, List}
use Rattle.dense_blocks.specs.Field.{Ops}
use Rattle.dense_blocks.specs.Vectors.{AllScalars}
use Rattle.dense_blocks.specs.Matrices.{product}
use Rattle.dense_blocks.specs.MatrixFacts.{matrix_negative, matrix_sum}
use Rattle.dense_blocks.specs.Blocks.{matrix_of}
use Rattle.dense_blocks.specs.BlockFacts.{IsBlock}
use Rattle.dense_blocks.specs.declared.block.Block.{Block}
use Rattle.dense_blocks.specs.Inverses.{IsInverseBlock}
use Rattle.reduce_step.specs.declared.footprint.Footprint.{Footprint}
use Rattle.reduce_step.specs.Footprints.{IsOverField}

-- a field, a footprint, the inverse of its pivot, and what its corners become
pub record RecordValue (F : Type 0) : Type 0 where
  pub f : F
  pub foot : Footprint
  pub inverse : Block
  pub new_corners : Block

-- corners - column (a row)
abbrev pub schur_complement : Ops → Footprint → List (List ℕ) → List (List ℕ)
schur_complement K foot a =
    let n = foot.corners.cols in
    matrix_sum K (matrix_of foot.corners)
    (matrix_negative K (product K n (matrix_of foot.column) (product K n a (matrix_of foot.row))))

-- entries are scalars of the field, the inverse is two-sided, and the new corners are corners - column * inverse * row
pub record IsRecord (K : Ops) (foot : Footprint) (inverse new_corners : Block) : Type 0 where
  pub over : IsOverField K foot
  pub inverse_is : IsInverseBlock K foot.pivot inverse
  pub new_corners_are : IsBlock new_corners foot.corners.rows foot.corners.cols
      (schur_complement K foot (matrix_of inverse))
  pub scalars : AllScalars K new_corners.entries
