use Rattle.std.proofs.Common.{sym, subst, ◌∙◌, ◌+◌, ℕ}
use Rattle.rising_lists.specs.Rising.{IsRising, keys}
use Rattle.block_sparse.specs.Grids.{AreSized}
use Rattle.query_answers.proofs.CellLists.{degree-rises, degree-sized}
use Rattle.query_answers.proofs.degrees.coboundary_matrix.Goals as goal

pub grid-requires : goal.grid-requires
grid-requires c =
    let live = c.args.b.now.live in
    let rises = c.live-cells.ensures.live_cells.rising in
    let k : ℕ = c.args.k in
    let left = c.deref.ensures.value ∙ c.in_ok-left.ensures in
    let below = c.deref-2.ensures.value ∙ c.in_ok-below.ensures in
    record {
      left_rises = subst (λ ls. IsRising (keys ls)) (sym left) (degree-rises live rises k);
      below_rises = subst (λ ls. IsRising (keys ls)) (sym below) (degree-rises live rises (k + 1));
      left_sized = subst (AreSized live) (sym left) (degree-sized live rises k);
      below_sized = subst (AreSized live) (sym below) (degree-sized live rises (k + 1));
    }
