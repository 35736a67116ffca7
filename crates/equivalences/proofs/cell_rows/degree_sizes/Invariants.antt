use Rattle.std.proofs.Common.{◌≡◌, ◌<◌, ℕ, length, get_or, take}
use Rattle.cochain_vec.specs.Complexes.{total_size}
use Rattle.block_complexes.specs.Cochains.{of_degree}
use Rattle.equivalences.proofs.cell_rows.degree_sizes.Given as goal

abbrev pub invariant-loop-cell : goal.invariant-loop-cell
invariant-loop-cell l = record {
  count : length l.sizes ≡ 16;
  sizes : (k : ℕ) → k < 16 → get_or l.sizes k 0 ≡ total_size (of_degree k (take l.cell-index l.live));
}
