use Rattle.std.proofs.Common.{◌≡◌, ◌<◌, ℕ, [], ◌∷◌, length, take, get_or, ap, ◌∙◌, subst, subst₂}
use Rattle.block_sparse.specs.Grids.{AreSized}
use Rattle.reduce_step.specs.Differences.{IsSized}
use Rattle.reduce_step.proofs.DifferenceLaws.{taken-rises_as, taken-width_as, taken-same, counted-one, Searched}
use Rattle.reduce_step.proofs.DifferenceLaws.{found-changed}
use Rattle.reduce_step.proofs.differences.first_changed.Goals as goal

pub first_other-column-requires-clause-below_rises : goal.first_other-column-requires-clause-below_rises
first_other-column-requires-clause-below_rises c =
    let foot = c.args.foot.now in
    taken-rises_as c.count_live-2.result c.as_slice-below.result.now foot.below c.as_slice-below.ensures
    foot.parts.below_rises

pub first_other-column-requires-clause-rows : goal.first_other-column-requires-clause-rows
first_other-column-requires-clause-rows c =
    let foot = c.args.foot.now in
    taken-width_as c.count_live-2.result foot.column.rows c.as_slice-below.result.now foot.below
    c.as_slice-below.ensures foot.parts.column_rows

pub first_other-row-requires-clause-left_rises : goal.first_other-row-requires-clause-left_rises
first_other-row-requires-clause-left_rises c =
    let foot = c.args.foot.now in
    taken-rises_as c.count_live.result c.as_slice-left.result.now foot.left c.as_slice-left.ensures
    foot.parts.left_rises

pub first_other-row-requires-clause-cols : goal.first_other-row-requires-clause-cols
first_other-row-requires-clause-cols c =
    let foot = c.args.foot.now in
    taken-width_as c.count_live.result foot.row.cols c.as_slice-left.result.now foot.left c.as_slice-left.ensures
    foot.parts.row_cols

pub first_other-corner-requires-clause-left_rises : goal.first_other-corner-requires-clause-left_rises
first_other-corner-requires-clause-left_rises c =
    let foot = c.args.foot.now in
    taken-rises_as c.count_live.result c.as_slice-left.result.now foot.left c.as_slice-left.ensures
    foot.parts.left_rises

pub first_other-corner-requires-clause-below_rises : goal.first_other-corner-requires-clause-below_rises
first_other-corner-requires-clause-below_rises c =
    let foot = c.args.foot.now in
    taken-rises_as c.count_live-2.result c.as_slice-below.result.now foot.below c.as_slice-below.ensures
    foot.parts.below_rises

pub first_other-corner-requires-clause-cols : goal.first_other-corner-requires-clause-cols
first_other-corner-requires-clause-cols c =
    let foot = c.args.foot.now in
    taken-width_as c.count_live.result foot.corners.cols c.as_slice-left.result.now foot.left c.as_slice-left.ensures
    foot.corner_cols

pub first_other-corner-requires-clause-rows : goal.first_other-corner-requires-clause-rows
first_other-corner-requires-clause-rows c =
    let foot = c.args.foot.now in
    taken-width_as c.count_live-2.result foot.corners.rows c.as_slice-below.result.now foot.below
    c.as_slice-below.ensures foot.corner_rows

pub returns : goal.returns
returns c =
    let v = c.args.b.now in
    let foot = c.args.foot.now in
    let left = c.as_slice-left in
    let below = c.as_slice-below in
    let j : ℕ = c.from.result in
    let k : ℕ = c.from-2.result in
    let m : ℕ = c.count_live.result in
    let n : ℕ = c.count_live-2.result in
    let x = counted-one c.is_live_as.result j (IsSized v.live foot.x foot.pivot.cols) c.from.ensures
    c.is_live_as.ensures in
    let y = counted-one c.is_live_as-2.result k (IsSized v.live foot.y foot.pivot.rows) c.from-2.ensures
    c.is_live_as-2.ensures in
    let xs : take j (c.cell_and_size.result ∷ []) ≡ take j ((foot.x, foot.pivot.cols) ∷ []) =
    ap (λ l. take j (l ∷ [])) c.cell_and_size.ensures ∙ taken-same v.live j foot.x foot.pivot.cols x.0 in
    let ys : take k (c.cell_and_size-2.result ∷ []) ≡ take k ((foot.y, foot.pivot.rows) ∷ []) =
    ap (λ l. take k (l ∷ [])) c.cell_and_size-2.ensures ∙ taken-same v.live k foot.y foot.pivot.rows y.0 in
    let ls : take m left.result.now ≡ take m foot.left = ap (take m) left.ensures in
    let bs : take n below.result.now ≡ take n foot.below = ap (take n) below.ensures in
    let pivot = c.first_other-pivot in
    let column = c.first_other-column in
    let row = c.first_other-row in
    let corner = c.first_other-corner in
    found-changed v foot j k m n (record {
      x_in = x.0;
      x_out = x.1;
      y_in = y.0;
      y_out = y.1;
      left_in = subst (AreSized v.live) ls c.count_live.ensures.live;
      left_out = subst (λ ls. m < length ls → IsSized v.live (get_or ls m (0, 0)).0 (get_or ls m (0, 0)).1 → ⊥)
          left.ensures c.count_live.ensures.other;
      below_in = subst (AreSized v.live) bs c.count_live-2.ensures.live;
      below_out = subst (λ ls. n < length ls → IsSized v.live (get_or ls n (0, 0)).0 (get_or ls n (0, 0)).1 → ⊥)
          below.ensures c.count_live-2.ensures.other;
    }) pivot.result column.result row.result corner.result c.earlier.result c.earlier-2.result c.earlier-3.result
    (subst₂ (λ ls bs. Searched v foot ls bs foot.pivot pivot.result) xs ys pivot.ensures)
    (subst₂ (λ ls bs. Searched v foot ls bs foot.column column.result) xs bs column.ensures)
    (subst₂ (λ ls bs. Searched v foot ls bs foot.row row.result) ls ys row.ensures)
    (subst₂ (λ ls bs. Searched v foot ls bs foot.corners corner.result) ls bs corner.ensures)
    c.earlier.ensures c.earlier-2.ensures c.earlier-3.ensures
