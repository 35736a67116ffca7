use Rattle.std.proofs.Common.{arith}
use Rattle.open_columns.proofs.OpenLaws.{none-after}
use Rattle.open_columns.proofs.firsts.passed_after.Goals as goal

pub first_column_after-requires : goal.first_column_after-requires
first_column_after-requires c = λ k l m. absurd (omega arith)

pub returns-in-Some : goal.returns-in-Some
returns-in-Some c = λ k l. none-after c.args.firsts.now c.args.low c.requires.below c.requires.here k
    (λ m. c.in-Some.ensures.none_before k m l)

pub returns-in-None : goal.returns-in-None
returns-in-None c = λ k l. none-after c.args.firsts.now c.args.low c.requires.below c.requires.here k
    (λ m. c.in-None.ensures k m)
