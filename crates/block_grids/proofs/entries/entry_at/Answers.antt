use Rattle.std.proofs.Common.{◌≡◌, ◌≢◌, ◌<◌, ◌≤◌, ℕ, Some, ap, ◌∙◌, sym, subst, length, get_or, arith}
use Rattle.rising_lists.specs.Rising.{entry}
use Rattle.rising_lists.proofs.Keyed.{look-at, look-absent}
use Rattle.block_grids.proofs.WalkLaws.{absent-from}
use Rattle.block_grids.proofs.entries.entry_at.Goals as goal
use Rattle.block_grids.proofs.entries.entry_at.Goals.{else-at-cells-via-then-at-cells+else-cells-at}
use Rattle.block_grids.proofs.entries.entry_at.Goals.{else-at-cells-via-else-at-cells}

pub returns-then-cells-at-clause-entry : goal.returns-then-cells-at-clause-entry
returns-then-cells-at-clause-entry c =
    let line = c.args.line.now in
    let at : ℕ = c.args.at in
    let is = c.cells-cells.ensures.cells in
    let rises = c.cells-cells.ensures.line in
    let inside : at < length line.cells = subst (λ ks. at < length ks) is c.if-at-cells.true in
    ap (λ vs. Some (get_or vs at 0)) c.values-entries.ensures.values
    ∙ sym (look-at line.cells line.values rises.full rises.rising at 0 inside)
    ∙ ap (entry line) (subst (λ ks. get_or ks at 0 ≡ c.args.c) is c.if-cells-at.true)

pub returns-else-at-cells-clause-entry : goal.returns-else-at-cells-clause-entry
returns-else-at-cells-clause-entry c =
    let line = c.args.line.now in
    let is = c.cells-cells.ensures.cells in
    sym (look-absent c.args.c line.cells line.values
    (absent-from line.cells c.args.at c.args.c c.cells-cells.ensures.line.rising c.requires.passed c.requires.here
    (elim c.else-at-cells.branch [
      | else-at-cells-via-then-at-cells+else-cells-at w ↦ λ l. subst (λ ks. get_or ks c.args.at 0 ≢ c.args.c) is
          w.if-cells-at.false
      | else-at-cells-via-else-at-cells w ↦ λ l.
          absurd (let m = subst (λ ks. length ks ≤ c.args.at) is w.if-at-cells.false in omega arith)
    ])))
