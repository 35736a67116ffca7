use Rattle.cocycle_bases.proofs.OpenLaws.{IsZeroSoFar}
use Rattle.cocycle_bases.proofs.open_cells.first_open.Given as goal

abbrev pub invariant-loop-cell : goal.invariant-loop-cell
invariant-loop-cell l = IsZeroSoFar l.degree l.live l.values l.cell-index l.start
