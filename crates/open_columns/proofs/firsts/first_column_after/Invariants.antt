use Rattle.std.proofs.Common.{◌+◌, is_some}
use Rattle.rising_lists.specs.Rising.{entry}
use Rattle.open_columns.specs.Open.{first_of}
use Rattle.open_columns.proofs.OpenLaws.{NoneTo}
use Rattle.open_columns.proofs.firsts.first_column_after.Given as goal

abbrev pub invariant-loop-i : goal.invariant-loop-i
invariant-loop-i l = NoneTo (λ s. is_some (first_of (entry l.firsts s))) l.firsts.cells (l.x + 1) l.i
