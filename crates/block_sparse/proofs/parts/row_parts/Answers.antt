use Rattle.std.proofs.Common.{◌≡◌, ◌<◌, ℕ, ap, ◌∙◌, sym, subst, length, get_or, take, None, [], ◌∷◌, arith, inl, inr}
use Rattle.std.proofs.Common.{length-append}
use Rattle.std.proofs.lemmas.Bool.{cases_lt}
use Rattle.std.proofs.lemmas.List.{get_or_push, get_or_append_left}
use Rattle.dense_blocks.specs.Blocks.{matrix_of}
use Rattle.block_sparse.specs.Grids.{width, window, IsPart}
use Rattle.block_sparse.proofs.Windows.{width-next, width-within}
use Rattle.block_sparse.proofs.parts.row_parts.Goals as goal

pub part-requires-clause-cols : goal.part-requires-clause-cols
part-requires-clause-cols c =
    let inside : c.loop-i.i < length c.args.left.now = omega arith in
    omega (arith, c.loop-i.invariant.col, width-within c.args.left.now c.loop-i.i inside, c.requires.cols)

pub overflow_add-col : goal.overflow_add-col
overflow_add-col c =
    let inside : c.loop-i.i < length c.args.left.now = omega arith in
    omega (
      arith,
      c.loop-i.invariant.col,
      width-within c.args.left.now c.loop-i.i inside,
      c.requires.cols,
      c.args.joined.now.cols_fit,
    )

pub loop-i-preserved : goal.loop-i-preserved
loop-i-preserved c =
    let left = c.args.left.now in
    let i : ℕ = c.loop-i.i in
    let inside : i < length left = omega arith in
    let old = c.loop-i.parts.items in
    let new = c.in_ok-part.field-0 in
    let A = matrix_of c.args.joined.now in
    let full : length old ≡ i = c.loop-i.invariant.count in
    record {
      count = ap length c.in_ok-push.ensures.items ∙ omega (arith, length-append old (new ∷ []), full);
      col = omega (arith, c.loop-i.invariant.col, width-next left i inside);
      parts = λ k l. subst (λ ps. IsPart (get_or ps k None) c.args.height (get_or left k (0, 0)).1
          (window c.args.row c.args.height (width (take k left)) (get_or left k (0, 0)).1 A))
          (sym c.in_ok-push.ensures.items)
          (elim (cases_lt k i) [
            | inl u ↦ subst (λ p. IsPart p c.args.height (get_or left k (0, 0)).1
                (window c.args.row c.args.height (width (take k left)) (get_or left k (0, 0)).1 A))
                (sym (get_or_append_left old (new ∷ []) None k (omega (arith, u, full)))) (c.loop-i.invariant.parts k u)
            | inr u ↦
                let e : i ≡ k = omega arith in
                subst (λ p. IsPart p c.args.height (get_or left k (0, 0)).1
                (window c.args.row c.args.height (width (take k left)) (get_or left k (0, 0)).1 A))
                (sym (get_or_push old new None k (omega (arith, full, e))))
                (subst (λ n. IsPart new c.args.height (get_or left n (0, 0)).1
                (window c.args.row c.args.height (width (take n left)) (get_or left n (0, 0)).1 A)) e
                (subst (λ n. IsPart new c.args.height (get_or left i (0, 0)).1
                (window c.args.row c.args.height n (get_or left i (0, 0)).1 A)) c.loop-i.invariant.col
                c.in_ok-part.ensures))
          ]);
    }
