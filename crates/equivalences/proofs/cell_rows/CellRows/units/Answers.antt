use Rattle.std.proofs.Common.{◌≡◌, ◌≤◌, ◌<◌, ◌+◌, [], ℕ, List, ap, ap₂, sym, ◌∙◌, arith, length, get_or, set, subst, take}
use Rattle.std.proofs.Common.{refl, true}
use Rattle.std.proofs.lemmas.List.{length-set, length_push}
use Rattle.cochain_vec.specs.Complexes.{total_size}
use Rattle.dense_blocks.specs.MatrixFacts.{identity}
use Rattle.rising_lists.specs.Rising.{IsRising, has}
use Rattle.block_complexes.specs.BlockComplexes.{cells, degree_of}
use Rattle.block_complexes.specs.Cochains.{of_degree}
use Rattle.block_complexes.proofs.LiveLaws.{length-cells}
use Rattle.block_complexes.proofs.DegreeLaws.{value-within}
use Rattle.block_sparse.specs.StoredBlocks.{AreLive}
use Rattle.equivalence_laws.specs.Updates.{cell_rows}
use Rattle.equivalences.specs.Rows.{cell_rows_of, unit_rows}
use Rattle.equivalences.proofs.UnitLaws.{units_at, units-found, starts-next, members-next, coordinates-fit, no-starts}
use Rattle.equivalences.proofs.cell_rows.CellRows.units.Goals as goal

pub loop-cell-init : goal.loop-cell-init
loop-cell-init c = record {
  count = ap length c.in_ok-rows.ensures.items;
  starts_count = refl;
  starts = λ k l. no-starts k;
  rows = λ i l. absurd (omega arith);
}

pub units-requires-clause-fit : goal.units-requires-clause-fit
units-requires-clause-fit c =
    let live = c.live-live.result.now in
    let i : ℕ = c.loop-cell.cell-index in
    let x : ℕ × ℕ × ℕ = get_or live i (0, 0, 0) in
    let fits : AreLive live = subst AreLive (sym c.live-live.ensures.live) c.live-live.ensures.live_cells in
    let below : x.1 ≤ 15 = fits.degrees i (0, 0, 0) c.loop-cell-test.true in
    let start = ap (λ d. get_or c.loop-cell.starts d 0) c.from-degree.ensures
    ∙ c.loop-cell.invariant.starts x.1 (omega (arith, below)) in
    let all = ap (λ d. get_or c.degree_sizes-sizes.result d 0) c.from-degree.ensures
    ∙ c.degree_sizes-sizes.ensures x.1 (omega (arith, below)) in
    omega (arith, start, all, c.from-size.ensures, value-within x.1 live i c.loop-cell-test.true refl)

pub units-requires-clause-width : goal.units-requires-clause-width
units-requires-clause-width c =
    let live = c.live-live.result.now in
    let i : ℕ = c.loop-cell.cell-index in
    let x : ℕ × ℕ × ℕ = get_or live i (0, 0, 0) in
    let fits : AreLive live = subst AreLive (sym c.live-live.ensures.live) c.live-live.ensures.live_cells in
    let below : x.1 ≤ 15 = fits.degrees i (0, 0, 0) c.loop-cell-test.true in
    let all = ap (λ d. get_or c.degree_sizes-sizes.result d 0) c.from-degree.ensures
    ∙ c.degree_sizes-sizes.ensures x.1 (omega (arith, below)) in
    omega (arith, all, coordinates-fit live x.1 fits)

pub overflow_add-starts : goal.overflow_add-starts
overflow_add-starts c =
    let live = c.live-live.result.now in
    let i : ℕ = c.loop-cell.cell-index in
    let x : ℕ × ℕ × ℕ = get_or live i (0, 0, 0) in
    let fits : AreLive live = subst AreLive (sym c.live-live.ensures.live) c.live-live.ensures.live_cells in
    let below : x.1 ≤ 15 = fits.degrees i (0, 0, 0) c.loop-cell-test.true in
    let start = ap (λ d. get_or c.loop-cell.starts d 0) c.from-degree.ensures
    ∙ c.loop-cell.invariant.starts x.1 (omega (arith, below)) in
    omega (
      arith,
      start,
      c.from-size.ensures,
      value-within x.1 live i c.loop-cell-test.true refl,
      coordinates-fit live x.1 fits,
    )

pub loop-cell-preserved : goal.loop-cell-preserved
loop-cell-preserved c =
    let live = c.live-live.result.now in
    let i : ℕ = c.loop-cell.cell-index in
    let inside : i < length live = c.loop-cell-test.true in
    let x : ℕ × ℕ × ℕ = get_or live i (0, 0, 0) in
    let fits : AreLive live = subst AreLive (sym c.live-live.ensures.live) c.live-live.ensures.live_cells in
    let at_most : x.1 ≤ 15 = fits.degrees i (0, 0, 0) inside in
    let below : x.1 < 16 = omega (arith, at_most) in
    let starts : List ℕ = c.loop-cell.starts in
    let start = ap (λ d. get_or starts d 0) c.from-degree.ensures ∙ c.loop-cell.invariant.starts x.1 below in
    let all = ap (λ d. get_or c.degree_sizes-sizes.result d 0) c.from-degree.ensures
    ∙ c.degree_sizes-sizes.ensures x.1 below in
    let made : c.units.result ≡ units_at live i =
    c.units.ensures
    ∙ ap₂ (λ size start. unit_rows size start (get_or c.degree_sizes-sizes.result c.from-degree.result 0)) c.from-size.ensures start
    ∙ ap (unit_rows x.2 (total_size (of_degree x.1 (take i live)))) all in
    record {
      count = ap length c.in_ok-push.ensures.items ∙ length_push c.loop-cell.rows.items c.units.result
          ∙ ap (λ n. n + 1) c.loop-cell.invariant.count;
      starts_count = length-set starts c.from-degree.result (get_or starts c.from-degree.result 0 + c.from-size.result)
          ∙ c.loop-cell.invariant.starts_count;
      starts = λ k l. ap₂ (λ d s. get_or (set starts d (get_or starts d 0 + s)) k 0) c.from-degree.ensures
          c.from-size.ensures
          ∙ starts-next live starts i inside c.loop-cell.invariant.starts_count below c.loop-cell.invariant.starts k l;
      rows = members-next (units_at live) [] c.loop-cell.rows.items c.push.new.self.items i c.units.result
          c.loop-cell.invariant.count c.in_ok-push.ensures.items made c.loop-cell.invariant.rows;
    }

pub invariant_of-result : goal.invariant_of-result
invariant_of-result c =
    let live = c.live-live.result.now in
    let fits : AreLive live = subst AreLive (sym c.live-live.ensures.live) c.live-live.ensures.live_cells in
    let cells_are : c.in_ok-cells.cells.items ≡ cells live = c.in_ok-cells.ensures in
    record {
      rising = subst IsRising (sym cells_are) fits.rising;
      full = omega (
        arith,
        c.loop-cell.invariant.count,
        ap length cells_are,
        length-cells live,
        c.loop-cell-test.false,
        c.loop-cell.auto.cell-index-end,
      );
    }

pub returns-clause-rows : goal.returns-clause-rows
returns-clause-rows c = λ q h.
    let live = c.live-live.result.now in
    let e = c.live-live.ensures.live in
    let fits : AreLive live = subst AreLive (sym e) c.live-live.ensures.live_cells in
    let cells_are : c.in_ok-cells.cells.items ≡ cells live = c.in_ok-cells.ensures in
    let size : length c.loop-cell.rows.items ≡ length live =
    omega (arith, c.loop-cell.invariant.count, c.loop-cell-test.false, c.loop-cell.auto.cell-index-end) in
    ap (λ ks. cell_rows_of (record { cells = ks; values = c.loop-cell.rows.items }) q) cells_are
    ∙ units-found live c.loop-cell.rows.items fits.rising size
    (λ i l. c.loop-cell.invariant.rows i (omega (arith, l, c.loop-cell-test.false))) q
    (subst (λ l. has q (cells l) ≡ true) (sym e) h)
    ∙ ap (λ l. cell_rows (of_degree (degree_of l q) l) (identity (total_size (of_degree (degree_of l q) l))) q) e
