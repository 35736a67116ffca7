use Rattle.std.proofs.Common.{◌<◌, ◌++◌, ℕ, List, ap, ◌∙◌, sym, length, get_or, take, append_assoc, arith}
use Rattle.rising_lists.specs.Rising.{entry}
use Rattle.block_grids.specs.Joined.{scalar_row, entry_row}
use Rattle.block_grids.proofs.WalkLaws.{next-beyond, pieces-next}
use Rattle.block_grids.proofs.entries.push_entries.Goals as goal

pub loop-cell-preserved : goal.loop-cell-preserved
loop-cell-preserved c =
    let line = c.args.line.now in
    let left = c.args.left.now in
    let i : ℕ = c.loop-cell.cell-index in
    let inside : i < length left = omega arith in
    let piece : ℕ × ℕ → List ℕ = λ x. scalar_row (entry line x.0) x.1 in
    let x = get_or left i (0, 0) in
    record {
      entries = c.in_ok-push_entry.ensures
          ∙ ap (λ o. c.loop-cell.entries ++ scalar_row o x.1) c.entry_from-entry.ensures.entry
          ∙ ap (λ e. e ++ piece x) c.loop-cell.invariant.entries
          ∙ append_assoc c.args.entries.now (entry_row line (take i left)) (piece x)
          ∙ ap (λ e. c.args.entries.now ++ e) (sym (pieces-next piece left i (0, 0) inside));
      within = c.entry_from-entry.ensures.within;
      passed = next-beyond left line.cells c.entry_from-entry.result.1 i c.requires c.entry_from-entry.ensures.passed;
    }
