use Rattle.std.proofs.Common.{ap, ◌∙◌, sym, arith}
use Rattle.rising_lists.specs.Rising.{has}
use Rattle.rising_lists.proofs.Keyed.{has-at}
use Rattle.block_complexes.specs.BlockComplexes.{cells}
use Rattle.block_complexes.proofs.LiveLaws.{cell-at, length-cells, of_cell-at}
use Rattle.block_sparse.proofs.live_cells.cell_in.Goals as goal

pub returns-in-Some : goal.returns-in-Some
returns-in-Some c =
    let live = c.args.live.now in
    let i = c.in-Some.at in
    let h = c.in-Some.ensures in (
      ap (λ k. has k (cells live)) (sym (cell-at live i h.0 ∙ h.1))
          ∙ has-at (cells live) i (omega (arith, h.0, length-cells live)),
      of_cell-at (λ l. l.1) live i c.args.c c.requires h.0 h.1,
      of_cell-at (λ l. l.2) live i c.args.c c.requires h.0 h.1,
    )
