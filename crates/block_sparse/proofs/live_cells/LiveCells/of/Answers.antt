use Rattle.std.proofs.Common.{ap, ◌∙◌, sym, subst, length}
use Rattle.std.proofs.lemmas.List.{length-map}
use Rattle.rising_lists.specs.Rising.{IsRising}
use Rattle.block_sparse.proofs.SizeLaws.{sizes_of-live}
use Rattle.block_sparse.proofs.live_cells.LiveCells.of.Goals as goal

pub of_values-sizes-requires-clause-rising : goal.of_values-sizes-requires-clause-rising
of_values-sizes-requires-clause-rising c = subst IsRising (sym c.in_ok-cells_of.ensures) c.requires

pub of_values-sizes-requires-clause-full : goal.of_values-sizes-requires-clause-full
of_values-sizes-requires-clause-full c =
    let live = c.args.live.now in
    ap length c.in_ok-sizes_of.ensures ∙ length-map live (λ l. l.2) ∙ sym (length-map live (λ l. l.0))
    ∙ sym (ap length c.in_ok-cells_of.ensures)

pub invariant_of-result : goal.invariant_of-result
invariant_of-result c =
    rw (c.of_values-sizes.ensures, c.in_ok-cells_of.ensures, c.in_ok-sizes_of.ensures, c.in_ok-of.ensures)
    (sizes_of-live c.args.live.now)
