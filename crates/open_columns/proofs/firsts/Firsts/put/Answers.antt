use Rattle.open_columns.proofs.OpenLaws.{none-put}
use Rattle.open_columns.proofs.firsts.Firsts.put.Goals as goal

pub invariant_of-self : goal.invariant_of-self
invariant_of-self c =
    none-put c.self.inside.firsts c.put.new.self c.self.inside.low c.lower-self-inside.result c.args.x c.args.first
    c.self.invariant c.lower-self-inside.ensures.low c.lower-self-inside.ensures.known c.put.ensures
