use Rattle.pair_find.proofs.PairLaws.{first-in_column, beyond}
use Rattle.pair_find.proofs.candidates.first_from.Goals as goal

pub returns-in-Some : goal.returns-in-Some
returns-in-Some c = first-in_column c.args.b.now c.args.from c.in-Some.t c.in-Some.ensures

pub returns-in-None : goal.returns-in-None
returns-in-None c = beyond c.args.b.now c.args.from c.in-None.ensures c.first_open_after.result
    c.first_open_after.ensures
