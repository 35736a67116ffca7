use Rattle.std.proofs.Common.{◌≤◌, ◌+◌, ℕ, List, ap, ap₂, ◌∙◌, refl, arith, get_or, set}
use Rattle.std.proofs.lemmas.List.{length-set}
use Rattle.block_complexes.proofs.DegreeLaws.{value-within}
use Rattle.equivalences.proofs.UnitLaws.{starts-next, coordinates-fit}
use Rattle.equivalences.proofs.cell_rows.degree_sizes.Goals as goal

pub overflow_add-sizes : goal.overflow_add-sizes
overflow_add-sizes c =
    let live = c.args.live.now in
    let i : ℕ = c.loop-cell.cell-index in
    let x : ℕ × ℕ × ℕ = get_or live i (0, 0, 0) in
    let below : x.1 ≤ 15 = c.requires.degrees i (0, 0, 0) c.loop-cell-test.true in
    let size = ap (λ d. get_or c.loop-cell.sizes d 0) c.from-degree.ensures
    ∙ c.loop-cell.invariant.sizes x.1 (omega (arith, below)) in
    omega (
      arith,
      size,
      c.from.ensures,
      value-within x.1 live i c.loop-cell-test.true refl,
      coordinates-fit live x.1 c.requires,
    )

pub loop-cell-preserved : goal.loop-cell-preserved
loop-cell-preserved c =
    let live = c.args.live.now in
    let i : ℕ = c.loop-cell.cell-index in
    let x : ℕ × ℕ × ℕ = get_or live i (0, 0, 0) in
    let at_most : x.1 ≤ 15 = c.requires.degrees i (0, 0, 0) c.loop-cell-test.true in
    let sizes : List ℕ = c.loop-cell.sizes in
    record {
      count = length-set sizes c.from-degree.result (get_or sizes c.from-degree.result 0 + c.from.result)
          ∙ c.loop-cell.invariant.count;
      sizes = λ k l. ap₂ (λ d s. get_or (set sizes d (get_or sizes d 0 + s)) k 0) c.from-degree.ensures c.from.ensures
          ∙ starts-next live sizes i c.loop-cell-test.true c.loop-cell.invariant.count (omega (arith, at_most))
          c.loop-cell.invariant.sizes k l;
    }
