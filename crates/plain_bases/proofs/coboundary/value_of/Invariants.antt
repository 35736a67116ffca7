use Rattle.std.proofs.Common.{◌≡◌, length, drop}
use Rattle.cochain_vec.specs.Complexes.{total_size, value_at}
use Rattle.plain_bases.proofs.coboundary.value_of.Given as goal

abbrev pub invariant-loop-cell : goal.invariant-loop-cell
invariant-loop-cell l = record {
  size : length l.rest ≡ total_size (drop l.cell-index l.cells);
  same : value_at (drop l.cell-index l.cells) l.rest l.s ≡ value_at l.cells l.z l.s;
}
