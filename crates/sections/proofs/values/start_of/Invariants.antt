use Rattle.std.proofs.Common.{◌≡◌, ◌≢◌, ◌<◌, ℕ, take, get_or}
use Rattle.cochain_vec.specs.Complexes.{total_size}
use Rattle.block_complexes.specs.BlockComplexes.{cells}
use Rattle.block_complexes.specs.Cochains.{of_degree}
use Rattle.sections.proofs.values.start_of.Given as goal

abbrev pub invariant-loop-cell : goal.invariant-loop-cell
invariant-loop-cell l = record {
  start : l.start ≡ total_size (of_degree 0 (take l.cell-index l.live));
  others : (k : ℕ) → k < l.cell-index → get_or (cells l.live) k 0 ≢ l.s;
}
