use Rattle.std.proofs.Common.{◌∙◌, ◌+◌, ◌<◌, ◌≤◌, ℕ, ap, length, arith}
use Rattle.std.proofs.lemmas.List.{take_all}
use Rattle.cochain_vec.specs.Complexes.{total_size}
use Rattle.block_complexes.specs.Cochains.{of_degree}
use Rattle.block_complexes.proofs.DegreeLaws.{start-next, start-within}
use Rattle.equivalences.proofs.cell_rows.total_of.Goals as goal

pub overflow_add-total : goal.overflow_add-total
overflow_add-total c =
    let live = c.args.live.now in
    let i : ℕ = c.loop-cell.cell-index in
    let inside : i < length live = omega arith in
    omega (
      arith,
      c.loop-cell.invariant,
      c.size_at-total.ensures,
      start-next c.args.k live i (0, 0, 0) inside,
      start-within c.args.k live (i + 1),
      c.requires.total,
    )

pub loop-cell-preserved : goal.loop-cell-preserved
loop-cell-preserved c =
    let live = c.args.live.now in
    let i : ℕ = c.loop-cell.cell-index in
    let inside : i < length live = omega arith in
    omega (arith, c.loop-cell.invariant, c.size_at-total.ensures, start-next c.args.k live i (0, 0, 0) inside)

pub returns : goal.returns
returns c =
    let live = c.args.live.now in
    let end : length live ≤ c.loop-cell.cell-index = omega arith in
    c.loop-cell.invariant ∙ ap (λ l. total_size (of_degree c.args.k l)) (take_all c.loop-cell.cell-index live end)
