use Rattle.std.proofs.Common.{inl}
use Rattle.pair_find.proofs.PairLaws.{from-start}
use Rattle.pair_find.proofs.candidates.next_candidate.Goals as goal

pub returns-in-Some : goal.returns-in-Some
returns-in-Some c = inl c.in-Some.ensures

pub returns-in-None : goal.returns-in-None
returns-in-None c = from-start c.args.b.now c.args.from c.first_from-in-None.result c.in-None.ensures
    c.first_from-in-None.ensures
