use Rattle.std.proofs.Common.{◌≡◌, ◌<◌, ℕ, length, get_or, take, []}
use Rattle.cochain_vec.specs.Complexes.{total_size}
use Rattle.block_complexes.specs.Cochains.{of_degree}
use Rattle.equivalences.proofs.UnitLaws.{units_at}
use Rattle.equivalences.proofs.cell_rows.CellRows.units.Given as goal

abbrev pub invariant-loop-cell : goal.invariant-loop-cell
invariant-loop-cell l = record {
  count : length l.rows.items ≡ l.cell-index;
  starts_count : length l.starts ≡ 16;
  starts : (k : ℕ) → k < 16 → get_or l.starts k 0 ≡ total_size (of_degree k (take l.cell-index l.live));
  rows : (i : ℕ) → i < l.cell-index → get_or l.rows.items i [] ≡ units_at l.live i;
}
