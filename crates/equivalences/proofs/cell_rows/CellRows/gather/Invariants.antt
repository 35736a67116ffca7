use Rattle.std.specs.List.{flat_map}
use Rattle.std.proofs.Common.{◌≡◌, take}
use Rattle.block_complexes.specs.Cochains.{of_degree}
use Rattle.equivalences.specs.Rows.{cell_rows_of, entries_of}
use Rattle.equivalences.proofs.cell_rows.CellRows.gather.Given as goal

abbrev pub invariant-loop-cell : goal.invariant-loop-cell
invariant-loop-cell l = l.entries
    ≡ flat_map (λ t. entries_of (cell_rows_of l.self t.cell)) (of_degree l.k (take l.cell-index l.live))
