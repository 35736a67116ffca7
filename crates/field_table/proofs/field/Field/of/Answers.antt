use Rattle.std.proofs.Common.{arith}
use Rattle.field_table.specs.declared.field.Field.TheVariants.{Five, Seven, Eleven, Thirteen, Seventeen, Nineteen}
use Rattle.field_table.specs.declared.field.Field.TheVariants.{TwentyThree, TwentyNine}
use Rattle.field_table.proofs.Known.{known_at}
use Rattle.field_table.proofs.field.Field.of.Goals as goal

pub returns-in-5-clause-known : goal.returns-in-5-clause-known
returns-in-5-clause-known c = known_at Five c.args.order (omega arith)

pub returns-in-7-clause-known : goal.returns-in-7-clause-known
returns-in-7-clause-known c = known_at Seven c.args.order (omega arith)

pub returns-in-11-clause-known : goal.returns-in-11-clause-known
returns-in-11-clause-known c = known_at Eleven c.args.order (omega arith)

pub returns-in-13-clause-known : goal.returns-in-13-clause-known
returns-in-13-clause-known c = known_at Thirteen c.args.order (omega arith)

pub returns-in-17-clause-known : goal.returns-in-17-clause-known
returns-in-17-clause-known c = known_at Seventeen c.args.order (omega arith)

pub returns-in-19-clause-known : goal.returns-in-19-clause-known
returns-in-19-clause-known c = known_at Nineteen c.args.order (omega arith)

pub returns-in-23-clause-known : goal.returns-in-23-clause-known
returns-in-23-clause-known c = known_at TwentyThree c.args.order (omega arith)

pub returns-in-29-clause-known : goal.returns-in-29-clause-known
returns-in-29-clause-known c = known_at TwentyNine c.args.order (omega arith)
