use Rattle.std.proofs.Common.{◌≡◌, ◌≢◌, ◌<◌, ◌≤◌, ap, ◌∙◌, sym, subst, length, get_or, arith}
use Rattle.rising_lists.specs.Rising.{entry}
use Rattle.rising_lists.proofs.Keyed.{look-absent}
use Rattle.block_grids.proofs.WalkLaws.{absent-from}
use Rattle.block_grids.proofs.grids.value_at.Goals as goal
use Rattle.block_grids.proofs.grids.value_at.Goals.{else-at-cells-via-then-at-cells+else-cells-at}
use Rattle.block_grids.proofs.grids.value_at.Goals.{else-at-cells-via-else-at-cells}

pub block_at-requires : goal.block_at-requires
block_at-requires c = subst (λ ks. c.args.at < length ks) c.cells-cells.ensures.cells c.if-at-cells.true

pub returns-then-cells-at : goal.returns-then-cells-at
returns-then-cells-at c =
    sym c.block_at.ensures
    ∙ ap (entry c.args.line.now)
    (subst (λ ks. get_or ks c.args.at 0 ≡ c.args.c) c.cells-cells.ensures.cells c.if-cells-at.true)

pub returns-else-at-cells : goal.returns-else-at-cells
returns-else-at-cells c =
    let line = c.args.line.now in
    let is = c.cells-cells.ensures.cells in
    sym (look-absent c.args.c line.cells line.values
    (absent-from line.cells c.args.at c.args.c c.cells-cells.ensures.line.rising c.requires.passed c.requires.here
    (elim c.else-at-cells.branch [
      | else-at-cells-via-then-at-cells+else-cells-at w ↦ λ l. subst (λ ks. get_or ks c.args.at 0 ≢ c.args.c) is
          w.if-cells-at.false
      | else-at-cells-via-else-at-cells w ↦ λ l.
          absurd (let m = subst (λ ks. length ks ≤ c.args.at) is w.if-at-cells.false in omega arith)
    ])))
