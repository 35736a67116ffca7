use Rattle.std.proofs.Common.{◌≡◌}
use Rattle.dense_blocks.proofs.Cutting.{first_rows}
use Rattle.equivalences.specs.Rows.{unit_rows}
use Rattle.equivalences.proofs.rows.unit_block.Given as goal

abbrev pub invariant-loop-i : goal.invariant-loop-i
invariant-loop-i l = l.entries ≡ first_rows l.i (unit_rows l.count l.start l.width)
