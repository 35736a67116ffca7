use Rattle.std.proofs.Common.{◌≢◌, ◌∙◌, ◌<◌, ◌≤◌, ◌+◌, ℕ, ap, sym, get_or, length, arith, below_more}
use Rattle.std.proofs.lemmas.List.{take_all}
use Rattle.cochain_vec.specs.Complexes.{total_size}
use Rattle.rising_lists.proofs.Keyed.{has-absent}
use Rattle.block_complexes.specs.BlockComplexes.{cells}
use Rattle.block_complexes.specs.Cochains.{of_degree}
use Rattle.block_complexes.proofs.LiveLaws.{cell-at, length-cells}
use Rattle.block_complexes.proofs.DegreeLaws.{start-next, start-within}
use Rattle.sections.proofs.PlaceLaws.{start-absent, start-found}
use Rattle.sections.proofs.values.start_of.Goals as goal

pub overflow_add-start : goal.overflow_add-start
overflow_add-start c =
    let live = c.args.live.now in
    let i : ℕ = c.loop-cell.cell-index in
    let inside : i < length live = omega arith in
    omega (
      arith,
      c.loop-cell.invariant.start,
      c.size_at-start.ensures,
      start-next 0 live i (0, 0, 0) inside,
      start-within 0 live (i + 1),
      c.requires.live_cells.total,
    )

pub returns-then-cell-s : goal.returns-then-cell-s
returns-then-cell-s c =
    let live = c.args.live.now in
    let i : ℕ = c.loop-cell.cell-index in
    let inside : i < length live = omega arith in
    start-found live c.args.s c.loop-cell.start i c.requires.live_cells.rising inside c.if-cell-s.true c.requires.vertex
    c.loop-cell.invariant.start

pub loop-cell-preserved : goal.loop-cell-preserved
loop-cell-preserved c =
    let live = c.args.live.now in
    let i : ℕ = c.loop-cell.cell-index in
    let inside : i < length live = omega arith in
    record {
      start = omega (
        arith,
        c.loop-cell.invariant.start,
        c.size_at-start.ensures,
        start-next 0 live i (0, 0, 0) inside,
      );
      others = below_more (λ k. get_or (cells live) k 0 ≢ c.args.s) i c.loop-cell.invariant.others
          (λ e. c.if-cell-s.false (sym (cell-at live i inside) ∙ e));
    }

pub returns : goal.returns
returns c =
    let live = c.args.live.now in
    let i : ℕ = c.loop-cell.cell-index in
    let end : length live ≤ i = omega arith in
    start-absent live c.args.s c.loop-cell.start
    (has-absent c.args.s (cells live)
    (λ k l. c.loop-cell.invariant.others k (omega (arith, l, end, length-cells live))))
    (c.loop-cell.invariant.start ∙ ap (λ ls. total_size (of_degree 0 ls)) (take_all i live end))
