use Rattle.std.proofs.Common.{◌≡◌, ◌<◌, ℕ, length, slice_index, take}
use Rattle.cochain_vec.specs.Complexes.{total_size}
use Rattle.block_complexes.specs.Cochains.{of_degree}
use Rattle.block_sparse.proofs.coboundary.starts_of.Given as goal

abbrev pub invariant-loop-cell : goal.invariant-loop-cell
invariant-loop-cell l = record {
  start : l.start ≡ total_size (of_degree l.degree (take l.cell-index l.live));
  count : length l.places.items ≡ l.cell-index;
  each : (i : ℕ) → i < l.cell-index → slice_index l.places.items i ≡ total_size (of_degree l.degree (take i l.live));
}
