-- The step of a record.
use Rattle.std.specs.Prelude.{◌≡◌}
use Rattle.reduce_step.specs.declared.record.Step.{Step}
use Rattle.reduce_step.specs.Records.{RecordValue}

-- the step has the pair, the lists, the pivot, the joined row and column, and the inverse of the record
pub record IsStepOf {F : Type 0} (r : RecordValue F) (step : Step) : Type 0 where
  pub from : step.x ≡ r.foot.x
  pub to : step.y ≡ r.foot.y
  pub left : step.left ≡ r.foot.left
  pub below : step.below ≡ r.foot.below
  pub pivot : step.pivot ≡ r.foot.pivot
  pub inverse : step.inverse ≡ r.inverse
  pub row : step.row ≡ r.foot.row
  pub column : step.column ≡ r.foot.column
