use Rattle.std.proofs.Common.{subst}
use Rattle.reduce_step.specs.Parts.{IsJoinedBlock}
use Rattle.reduce_step.proofs.ListLaws.{AreListed, others-listed, one-listed}
use Rattle.reduce_step.proofs.CopyLaws.{IsCopy, copy-parts, copy-footprint, copy-over}
use Rattle.reduce_step.proofs.footprint.Footprint.copy.Goals as goal
use Rattle.reduce_step.proofs.footprint.Footprint.copy.Goals.{In_ok-pivot, In_ok-corners}

left-listed : (c : In_ok-pivot) → AreListed c.args.b.now.live c.in_ok-left.left
left-listed c =
    others-listed c.args.b.now.live c.row.result.now c.args.x c.in_ok-left.left c.in_ok-left.ensures
    c.row.ensures.rising (λ s m. (c.row.ensures.blocks s m).between.from)

below-listed : (c : In_ok-pivot) → AreListed c.args.b.now.live c.in_ok-below.below
below-listed c =
    others-listed c.args.b.now.live c.column.result.now c.args.y c.in_ok-below.below c.in_ok-below.ensures
    c.column.ensures.rising (λ t m. (c.column.ensures.blocks t m).between.to)

from-listed : (c : In_ok-pivot) → AreListed c.args.b.now.live c.in_ok-from.from
from-listed c = one-listed c.args.b.now.live c.args.x c.in_ok-from.from c.in_ok-from.ensures
    c.in_ok-pivot.ensures.fits.between.from

to-listed : (c : In_ok-pivot) → AreListed c.args.b.now.live c.in_ok-to.to
to-listed c = one-listed c.args.b.now.live c.args.y c.in_ok-to.to c.in_ok-to.ensures
    c.in_ok-pivot.ensures.fits.between.to

pub joined-requires : goal.joined-requires
joined-requires c =
    let left = left-listed (goal.at.joined-requires c).In_ok-pivot in
    let below = to-listed (goal.at.joined-requires c).In_ok-pivot in
    record { left_rises = left.rise; below_rises = below.rise; left_sized = left.sized; below_sized = below.sized }

pub joined-requires-2 : goal.joined-requires-2
joined-requires-2 c =
    let left = from-listed (goal.at.joined-requires-2 c).In_ok-pivot in
    let below = below-listed (goal.at.joined-requires-2 c).In_ok-pivot in
    record { left_rises = left.rise; below_rises = below.rise; left_sized = left.sized; below_sized = below.sized }

pub joined-requires-3 : goal.joined-requires-3
joined-requires-3 c =
    let left = left-listed (goal.at.joined-requires-3 c).In_ok-pivot in
    let below = below-listed (goal.at.joined-requires-3 c).In_ok-pivot in
    record { left_rises = left.rise; below_rises = below.rise; left_sized = left.sized; below_sized = below.sized }

copied : (c : In_ok-corners) → AreListed c.args.b.now.live c.in_ok-left.left
    → AreListed c.args.b.now.live c.in_ok-below.below
    → IsCopy c.args.b.now c.args.x c.args.y c.row.result.now c.column.result.now
    c.in_ok-left.left c.in_ok-below.below c.in_ok-pivot.pivot c.in_ok-row.row c.in_ok-column.column
    c.in_ok-corners.corners
copied c left below = record {
  row_has = c.row.ensures.cells;
  row_blocks = c.row.ensures.blocks;
  column_has = c.column.ensures.cells;
  column_blocks = c.column.ensures.blocks;
  left_is = c.in_ok-left.ensures;
  left_listed = left;
  below_is = c.in_ok-below.ensures;
  below_listed = below;
  stands = c.in_ok-pivot.ensures;
  square = c.requires.square;
  row_is = subst (λ ts. IsJoinedBlock c.args.b.now c.in_ok-left.left ts c.in_ok-row.row) c.in_ok-to.ensures
      c.in_ok-row.ensures;
  column_is = subst (λ ss. IsJoinedBlock c.args.b.now ss c.in_ok-below.below c.in_ok-column.column) c.in_ok-from.ensures
      c.in_ok-column.ensures;
  corners_are = c.in_ok-corners.ensures;
}

pub invariant_of-result : goal.invariant_of-result
invariant_of-result c = let at = goal.at.invariant_of-result c in record {
  parts = copy-parts (copied at.In_ok-corners (left-listed at.In_ok-pivot) (below-listed at.In_ok-pivot));
  corner_cols = c.in_ok-corners.ensures.cols;
  corner_rows = c.in_ok-corners.ensures.rows;
}

pub returns-clause-copied : goal.returns-clause-copied
returns-clause-copied c =
    let at = goal.at.returns-clause-copied c in
    copy-footprint _ _ _ _ (copied at.In_ok-corners (left-listed at.In_ok-pivot) (below-listed at.In_ok-pivot))

pub returns-clause-over : goal.returns-clause-over
returns-clause-over c =
    let at = goal.at.returns-clause-over c in
    copy-over _ _ _ _ (copied at.In_ok-corners (left-listed at.In_ok-pivot) (below-listed at.In_ok-pivot))
