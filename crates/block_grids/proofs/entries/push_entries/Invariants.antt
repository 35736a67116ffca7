use Rattle.std.proofs.Common.{◌≡◌, ◌<◌, ◌≤◌, ◌++◌, ℕ, length, get_or, take}
use Rattle.block_grids.specs.Joined.{entry_row}
use Rattle.block_grids.proofs.entries.push_entries.Given as goal

abbrev pub invariant-loop-cell : goal.invariant-loop-cell
invariant-loop-cell l = record {
  entries : l.entries ≡ l.initial.entries ++ entry_row l.line (take l.cell-index l.left);
  within : l.at ≤ length l.line.cells;
  passed : (a : ℕ) → a < l.at → l.cell-index < length l.left → get_or l.line.cells a 0
      < (get_or l.left l.cell-index (0, 0)).0;
}
