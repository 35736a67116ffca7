use Rattle.std.proofs.Common.{◌≡◌, ◌<◌, ℕ, ap, ◌∙◌, sym, subst, length, get_or, take, [], ◌∷◌, arith, inl, inr}
use Rattle.std.proofs.Common.{length-append}
use Rattle.std.proofs.lemmas.Bool.{cases_lt}
use Rattle.std.proofs.lemmas.List.{get_or_push, get_or_append_left}
use Rattle.dense_blocks.specs.Blocks.{matrix_of}
use Rattle.rising_lists.specs.Rising.{line_of}
use Rattle.block_sparse.specs.Fresh.{IsFreshRow, line_at}
use Rattle.block_sparse.specs.Grids.{width}
use Rattle.block_sparse.proofs.GridLaws.{key-listed}
use Rattle.block_sparse.proofs.Windows.{width-next, width-within}
use Rattle.block_sparse.proofs.fresh.fresh_rows.Goals as goal

pub row-requires : goal.row-requires
row-requires c = c.requires.within (get_or c.args.below.now c.loop-j.j (0, 0)).0
    (key-listed c.args.below.now c.loop-j.j (omega arith))

pub fresh_row-requires-clause-rows : goal.fresh_row-requires-clause-rows
fresh_row-requires-clause-rows c =
    let inside : c.loop-j.j < length c.args.below.now = omega arith in
    omega (arith, c.loop-j.invariant.row, width-within c.args.below.now c.loop-j.j inside, c.requires.rows)

pub overflow_add-row : goal.overflow_add-row
overflow_add-row c =
    let inside : c.loop-j.j < length c.args.below.now = omega arith in
    omega (
      arith,
      c.loop-j.invariant.row,
      width-within c.args.below.now c.loop-j.j inside,
      c.requires.rows,
      c.args.joined.now.rows_fit,
    )

pub loop-j-preserved : goal.loop-j-preserved
loop-j-preserved c =
    let below = c.args.below.now in
    let left = c.args.left.now in
    let rows = c.args.rows.now in
    let j : ℕ = c.loop-j.j in
    let inside : j < length below = omega arith in
    let old = c.loop-j.fresh.items in
    let new = c.in_ok-fresh_row.field-0 in
    let A = matrix_of c.args.joined.now in
    let full : length old ≡ j = c.loop-j.invariant.count in
    let here : IsFreshRow A (width (take j below)) (get_or below j (0, 0)).1 left
    (line_of rows (get_or below j (0, 0)).0) new =
    subst (λ l. IsFreshRow A (width (take j below)) (get_or below j (0, 0)).1 left l new) c.row.ensures
    (subst (λ n. IsFreshRow A n (get_or below j (0, 0)).1 left c.row.result.now new) c.loop-j.invariant.row
    c.in_ok-fresh_row.ensures) in
    record {
      count = ap length c.in_ok-push.ensures.items ∙ omega (arith, length-append old (new ∷ []), full);
      row = omega (arith, c.loop-j.invariant.row, width-next below j inside);
      fresh = λ k l. subst (λ ls. IsFreshRow A (width (take k below)) (get_or below k (0, 0)).1 left
          (line_of rows (get_or below k (0, 0)).0) (line_at ls k)) (sym c.in_ok-push.ensures.items)
          (elim (cases_lt k j) [
            | inl u ↦ subst (IsFreshRow A (width (take k below)) (get_or below k (0, 0)).1 left
                (line_of rows (get_or below k (0, 0)).0))
                (sym (get_or_append_left old (new ∷ []) (record { cells = []; values = [] }) k
                (omega (arith, u, full)))) (c.loop-j.invariant.fresh k u)
            | inr u ↦
                let e : j ≡ k = omega arith in
                subst (IsFreshRow A (width (take k below)) (get_or below k (0, 0)).1 left
                (line_of rows (get_or below k (0, 0)).0))
                (sym (get_or_push old new (record { cells = []; values = [] }) k (omega (arith, full, e))))
                (subst (λ n. IsFreshRow A (width (take n below)) (get_or below n (0, 0)).1 left
                (line_of rows (get_or below n (0, 0)).0) new) e here)
          ]);
    }
