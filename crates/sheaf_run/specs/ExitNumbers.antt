-- The numbers with which the program exits.
use Rattle.std.specs.Prelude.{ℕ}
use Rattle.sheaf_run.specs.declared.status.Status.{Status}
use Rattle.sheaf_run.specs.declared.status.Status.TheVariants.{Done, ReadFault, WriteFault, NoMemory, BadWords, BadLine}
use Rattle.sheaf_run.specs.declared.status.Status.TheVariants.{BadComplex, BadSheaf, Limit}

abbrev pub exit_number : Status → ℕ
exit_number Done = 0
exit_number ReadFault = 1
exit_number WriteFault = 2
exit_number NoMemory = 3
exit_number BadWords = 4
exit_number BadLine = 5
exit_number BadComplex = 6
exit_number BadSheaf = 7
exit_number Limit = 8
