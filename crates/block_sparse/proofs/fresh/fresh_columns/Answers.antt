use Rattle.std.proofs.Common.{◌≡◌, ◌<◌, ℕ, ap, ◌∙◌, sym, subst, length, get_or, take, [], ◌∷◌, arith, inl, inr}
use Rattle.std.proofs.Common.{length-append}
use Rattle.std.proofs.lemmas.Bool.{cases_lt}
use Rattle.std.proofs.lemmas.List.{get_or_push, get_or_append_left}
use Rattle.dense_blocks.specs.Blocks.{matrix_of}
use Rattle.rising_lists.specs.Rising.{line_of}
use Rattle.block_sparse.specs.Fresh.{IsFreshColumn, line_at}
use Rattle.block_sparse.specs.Grids.{width}
use Rattle.block_sparse.proofs.GridLaws.{key-listed}
use Rattle.block_sparse.proofs.Windows.{width-next, width-within}
use Rattle.block_sparse.proofs.fresh.fresh_columns.Goals as goal

pub line-requires : goal.line-requires
line-requires c = c.requires.within (get_or c.args.left.now c.loop-i.i (0, 0)).0
    (key-listed c.args.left.now c.loop-i.i (omega arith))

pub fresh_column-requires-clause-cols : goal.fresh_column-requires-clause-cols
fresh_column-requires-clause-cols c =
    let inside : c.loop-i.i < length c.args.left.now = omega arith in
    omega (arith, c.loop-i.invariant.col, width-within c.args.left.now c.loop-i.i inside, c.requires.cols)

pub overflow_add-col : goal.overflow_add-col
overflow_add-col c =
    let inside : c.loop-i.i < length c.args.left.now = omega arith in
    omega (
      arith,
      c.loop-i.invariant.col,
      width-within c.args.left.now c.loop-i.i inside,
      c.requires.cols,
      c.args.joined.now.cols_fit,
    )

pub loop-i-preserved : goal.loop-i-preserved
loop-i-preserved c =
    let outer = c.args.left.now in
    let inner = c.args.below.now in
    let columns = c.args.columns.now in
    let j : ℕ = c.loop-i.i in
    let inside : j < length outer = omega arith in
    let old = c.loop-i.fresh.items in
    let new = c.in_ok-fresh_column.field-0 in
    let A = matrix_of c.args.joined.now in
    let full : length old ≡ j = c.loop-i.invariant.count in
    let here : IsFreshColumn A (width (take j outer)) (get_or outer j (0, 0)).1 inner
    (line_of columns (get_or outer j (0, 0)).0) new =
    subst (λ l. IsFreshColumn A (width (take j outer)) (get_or outer j (0, 0)).1 inner l new) c.line.ensures
    (subst (λ n. IsFreshColumn A n (get_or outer j (0, 0)).1 inner c.line.result.now new) c.loop-i.invariant.col
    c.in_ok-fresh_column.ensures) in
    record {
      count = ap length c.in_ok-push.ensures.items ∙ omega (arith, length-append old (new ∷ []), full);
      col = omega (arith, c.loop-i.invariant.col, width-next outer j inside);
      fresh = λ k l. subst (λ ls. IsFreshColumn A (width (take k outer)) (get_or outer k (0, 0)).1 inner
          (line_of columns (get_or outer k (0, 0)).0) (line_at ls k)) (sym c.in_ok-push.ensures.items)
          (elim (cases_lt k j) [
            | inl u ↦ subst (IsFreshColumn A (width (take k outer)) (get_or outer k (0, 0)).1 inner
                (line_of columns (get_or outer k (0, 0)).0))
                (sym (get_or_append_left old (new ∷ []) (record { cells = []; values = [] }) k
                (omega (arith, u, full)))) (c.loop-i.invariant.fresh k u)
            | inr u ↦
                let e : j ≡ k = omega arith in
                subst (IsFreshColumn A (width (take k outer)) (get_or outer k (0, 0)).1 inner
                (line_of columns (get_or outer k (0, 0)).0))
                (sym (get_or_push old new (record { cells = []; values = [] }) k (omega (arith, full, e))))
                (subst (λ n. IsFreshColumn A (width (take n outer)) (get_or outer n (0, 0)).1 inner
                (line_of columns (get_or outer n (0, 0)).0) new) e here)
          ]);
    }
