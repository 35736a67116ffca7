use Rattle.std.proofs.Common.{ap}
use Rattle.rising_lists.specs.Rising.{entry, entry_of}
use Rattle.rising_lists.proofs.LineLaws.{line-absent}
use Rattle.open_columns.specs.Open.{is_open}
use Rattle.open_columns.proofs.OpenLaws.{first_from-same}
use Rattle.open_columns.proofs.columns.first_in.Goals as goal

pub returns-in-Some : goal.returns-in-Some
returns-in-Some c =
    first_from-same (λ t. is_open (entry c.in-Some.column.now t)) (λ t. is_open (entry_of c.args.marks.now c.args.x t))
    c.args.from c.first_from.result
    (λ t. ap (λ l. is_open (entry l t)) c.in-Some.ensures) c.first_from.ensures

pub returns-in-None : goal.returns-in-None
returns-in-None c = λ t l. ap (λ m. is_open (entry m t)) (line-absent c.args.marks.now.cells c.args.marks.now.values
    c.args.x c.in-None.ensures)
