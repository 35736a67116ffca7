use Rattle.std.proofs.Common.{◌≡◌, ◌<◌, ℕ, ap, ◌∙◌, length, get_or, take, None, [], ◌∷◌, arith, inl, inr, length-append}
use Rattle.std.proofs.lemmas.Bool.{cases_lt}
use Rattle.std.proofs.lemmas.List.{get_or_push, get_or_append_left}
use Rattle.dense_blocks.specs.Blocks.{matrix_of}
use Rattle.block_sparse.specs.Fresh.{mark_of}
use Rattle.block_sparse.specs.Grids.{width, window}
use Rattle.block_sparse.proofs.Windows.{width-next, width-within}
use Rattle.block_sparse.proofs.parts.column_marks.Goals as goal

pub mark-requires-clause-rows : goal.mark-requires-clause-rows
mark-requires-clause-rows c =
    let inside : c.loop-j.j < length c.args.below.now = omega arith in
    omega (arith, c.loop-j.invariant.row, width-within c.args.below.now c.loop-j.j inside, c.requires.rows)

pub overflow_add-row : goal.overflow_add-row
overflow_add-row c =
    let inside : c.loop-j.j < length c.args.below.now = omega arith in
    omega (
      arith,
      c.loop-j.invariant.row,
      width-within c.args.below.now c.loop-j.j inside,
      c.requires.rows,
      c.args.joined.now.rows_fit,
    )

pub loop-j-preserved : goal.loop-j-preserved
loop-j-preserved c =
    let below = c.args.below.now in
    let j : ℕ = c.loop-j.j in
    let inside : j < length below = omega arith in
    let old = c.loop-j.marks.items in
    let new = c.mark.result in
    let A = matrix_of c.args.joined.now in
    let full : length old ≡ j = c.loop-j.invariant.count in
    record {
      count = ap length c.in_ok-push.ensures.items ∙ omega (arith, length-append old (new ∷ []), full);
      row = omega (arith, c.loop-j.invariant.row, width-next below j inside);
      marks = λ k l. ap (λ ms. get_or ms k None) c.in_ok-push.ensures.items
          ∙ elim (cases_lt k j) [
            | inl u ↦ get_or_append_left old (new ∷ []) None k (omega (arith, u, full)) ∙ c.loop-j.invariant.marks k u
            | inr u ↦
                let e : j ≡ k = omega arith in
                get_or_push old new None k (omega (arith, full, e)) ∙ c.mark.ensures
                ∙ ap (λ n. mark_of (get_or below j (0, 0)).1 c.args.size
                (window n (get_or below j (0, 0)).1 c.args.col c.args.size A)) c.loop-j.invariant.row
                ∙ ap (λ n. mark_of (get_or below n (0, 0)).1 c.args.size
                (window (width (take n below)) (get_or below n (0, 0)).1 c.args.col c.args.size A)) e
          ];
    }
