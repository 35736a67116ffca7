use Rattle.rising_lists.specs.Rising.{entry}
use Rattle.open_columns.specs.Open.{is_open}
use Rattle.open_columns.proofs.OpenLaws.{NoneTo}
use Rattle.open_columns.proofs.columns.first_from.Given as goal

abbrev pub invariant-loop-i : goal.invariant-loop-i
invariant-loop-i l = NoneTo (λ t. is_open (entry l.column t)) l.column.cells l.from l.i
