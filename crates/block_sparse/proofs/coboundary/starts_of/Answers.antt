use Rattle.std.proofs.Common.{◌≡◌, ◌∙◌, ◌+◌, ◌<◌, ℕ, ap, length, take, get_or, [], ◌∷◌, inl, inr, arith, length-append}
use Rattle.std.proofs.lemmas.Bool.{cases_lt}
use Rattle.std.proofs.lemmas.List.{get_or_push, get_or_append_left}
use Rattle.cochain_vec.specs.Complexes.{total_size}
use Rattle.block_complexes.specs.Cochains.{of_degree}
use Rattle.block_complexes.proofs.DegreeLaws.{start-next, start-within}
use Rattle.block_sparse.proofs.coboundary.starts_of.Goals as goal

pub overflow_add-start : goal.overflow_add-start
overflow_add-start c =
    let live = c.args.live.now in
    let i : ℕ = c.loop-cell.cell-index in
    let inside : i < length live = omega arith in
    omega (
      arith,
      c.loop-cell.invariant.start,
      c.size_at-start.ensures,
      start-next c.args.degree live i (0, 0, 0)
          inside,
      start-within c.args.degree live (i + 1),
      c.requires.total,
    )

pub loop-cell-preserved : goal.loop-cell-preserved
loop-cell-preserved c =
    let live = c.args.live.now in
    let i : ℕ = c.loop-cell.cell-index in
    let inside : i < length live = omega arith in
    let old = c.loop-cell.places.items in
    let full : length old ≡ i = c.loop-cell.invariant.count in
    record {
      start = omega (
        arith,
        c.loop-cell.invariant.start,
        c.size_at-start.ensures,
        start-next c.args.degree live i (0, 0, 0) inside,
      );
      count = ap length c.in_ok-push.ensures.items ∙ omega (arith, length-append old (c.loop-cell.start ∷ []), full);
      each = λ j l. ap (λ ms. get_or ms j 0) c.in_ok-push.ensures.items
          ∙ elim (cases_lt j i) [
            | inl u ↦ get_or_append_left old (c.loop-cell.start ∷ []) 0 j (omega (arith, u, full))
                ∙ c.loop-cell.invariant.each j u
            | inr u ↦
                let e : i ≡ j = omega arith in
                get_or_push old c.loop-cell.start 0 j (omega (arith, full, e)) ∙ c.loop-cell.invariant.start
                ∙ ap (λ n. total_size (of_degree c.args.degree (take n live))) e
          ];
    }
