use Rattle.std.proofs.Common.{ap, ◌∙◌, sym}
use Rattle.rising_lists.specs.Rising.{entry_of}
use Rattle.open_columns.specs.Open.{is_open}
use Rattle.open_columns.proofs.OpenLaws.{first_pair-none, first_pair-some, first_pair-same}
use Rattle.open_columns.proofs.columns.Columns.first_open_after.Goals as goal

pub returns-in-Some : goal.returns-in-Some
returns-in-Some c =
    first_pair-same (λ s t. is_open (entry_of c.self.inside.marks s t)) (λ s t. is_open (entry_of c.args.self.now s t))
    c.args.x c.first_pair.result
    (λ s t. ap (λ v. is_open (entry_of v s t)) c.self.view_is)
    (first_pair-some c.self.inside.marks c.self.inside.firsts c.args.x c.self.invariant c.in-Some.s c.first_pair.result
    c.in-Some.ensures c.first_pair.ensures)

pub returns-in-None : goal.returns-in-None
returns-in-None c = λ s t l.
    ap (λ v. is_open (entry_of v s t)) (sym c.self.view_is)
    ∙ first_pair-none c.self.inside.marks c.self.inside.firsts c.args.x c.self.invariant c.in-None.ensures s t l
