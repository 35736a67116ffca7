use Rattle.std.proofs.Common.{◌≡◌, ◌<◌, ◌+◌, ◌-◌, ◌∙◌, ℕ, ap, arith, drop, false, length, subst, sym, take, true}
use Rattle.cocycle_bases.proofs.OpenLaws.{AllZero, end-within, first-found, zero_so_far-next}
use Rattle.cocycle_bases.proofs.open_cells.first_open.Goals as goal

pub overflow_add-end : goal.overflow_add-end
overflow_add-end c =
    let live = c.args.live.now in
    let i : ℕ = c.loop-cell.cell-index in
    let inside : i < length live = omega arith in
    omega (
      arith,
      c.size_at.ensures,
      end-within c.args.degree live c.requires.live_cells.rising c.args.values.now i c.loop-cell.start
          c.loop-cell.invariant (0, 0, 0) inside c.requires.size,
    )

pub slice_bounds-is_zero-end : goal.slice_bounds-is_zero-end
slice_bounds-is_zero-end c =
    let live = c.args.live.now in
    let i : ℕ = c.loop-cell.cell-index in
    let inside : i < length live = omega arith in
    omega (
      arith,
      c.size_at.ensures,
      end-within c.args.degree live c.requires.live_cells.rising c.args.values.now i c.loop-cell.start
          c.loop-cell.invariant (0, 0, 0) inside c.requires.size,
    )

pub returns-then-not-is_zero : goal.returns-then-not-is_zero
returns-then-not-is_zero c =
    let live = c.args.live.now in
    let z = c.args.values.now in
    let i : ℕ = c.loop-cell.cell-index in
    let start : ℕ = c.loop-cell.start in
    let inside : i < length live = omega arith in
    let size : start + c.size_at.result - start ≡ c.size_at.result = omega arith in
    first-found c.args.degree live c.requires.live_cells.rising z i start c.loop-cell.invariant (0, 0, 0) inside
    (λ is.
    let clash : false ≡ true = sym c.if-not-is_zero.true
    ∙ c.is_zero.ensures.1 (subst (λ n. AllZero (take n (drop start z))) (sym (size ∙ c.size_at.ensures)) is) in
    cc)

pub loop-cell-preserved : goal.loop-cell-preserved
loop-cell-preserved c =
    let live = c.args.live.now in
    let z = c.args.values.now in
    let i : ℕ = c.loop-cell.cell-index in
    let start : ℕ = c.loop-cell.start in
    let inside : i < length live = omega arith in
    let size : start + c.size_at.result - start ≡ c.size_at.result = omega arith in
    zero_so_far-next c.args.degree live c.requires.live_cells.rising z i start c.loop-cell.invariant (0, 0, 0) inside
    (start + c.size_at.result) (ap (λ n. start + n) c.size_at.ensures)
    (subst (λ n. AllZero (take n (drop start z))) (size ∙ c.size_at.ensures)
    (c.is_zero.ensures.0 c.if-not-is_zero.false))
