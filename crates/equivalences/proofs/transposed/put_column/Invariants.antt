use Rattle.equivalences.proofs.ColumnLaws.{IsColumnPut}
use Rattle.equivalences.proofs.transposed.put_column.Given as goal

abbrev pub invariant-loop-j : goal.invariant-loop-j
invariant-loop-j l = IsColumnPut l.width l.i l.row l.initial.into l.j l.into
