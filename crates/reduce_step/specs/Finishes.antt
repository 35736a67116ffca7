-- What finishing a footprint gives.
use Rattle.std.specs.Prelude.{◌≡◌, ℕ, List}
use Rattle.dense_blocks.specs.Field.{Ops}
use Rattle.dense_blocks.specs.MatrixFacts.{IsInverse}
use Rattle.dense_blocks.specs.Blocks.{matrix_of}
use Rattle.dense_blocks.specs.Inverses.{InKernel}
use Rattle.dense_blocks.specs.declared.block.Block.{Block}
use Rattle.reduce_step.specs.declared.footprint.Footprint.{Footprint}
use Rattle.reduce_step.specs.declared.finish.Finish.{Finish}
use Rattle.reduce_step.specs.declared.finish.Finish.TheVariants.{Made, Singular}
use Rattle.reduce_step.specs.Records.{RecordValue, IsRecord}

-- a record over this field of this footprint
pub record IsRecordOf {F : Type 0} (K : Ops) (f : F) (foot : Footprint) (r : RecordValue F) : Type 0 where
  pub field : r.f ≡ f
  pub footprint : r.foot ≡ foot
  pub record_is : IsRecord K foot r.inverse r.new_corners

-- the pivot of this footprint has no inverse, and the vector is in its kernel
pub record IsSingular (K : Ops) (foot : Footprint) (x y : ℕ) (pivot : Block) (kernel : List ℕ) : Type 0 where
  pub from : x ≡ foot.x
  pub to : y ≡ foot.y
  pub pivot_is : pivot ≡ foot.pivot
  pub kernel_is : InKernel K pivot.rows (matrix_of pivot) kernel
  pub no_inverse : (B : List (List ℕ)) → IsInverse K pivot.rows (matrix_of pivot) B → ⊥

-- the record where the pivot has an inverse, else the pivot with a vector of its kernel
abbrev pub Finishes : {F : Type 0} → Ops → F → Footprint → Finish F → Type 0
Finishes K f foot (Made r) = IsRecordOf K f foot r
Finishes K f foot (Singular x y pivot kernel) = IsSingular K foot x y pivot kernel.items
