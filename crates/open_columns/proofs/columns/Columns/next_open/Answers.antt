use Rattle.std.proofs.Common.{ap, ◌∙◌, sym, subst, arith, None}
use Rattle.rising_lists.specs.Rising.{entry_of}
use Rattle.open_columns.specs.Open.{is_open, FirstFrom}
use Rattle.open_columns.proofs.columns.Columns.next_open.Goals as goal

pub first_after-requires : goal.first_after-requires
first_after-requires c =
    subst (FirstFrom (λ t. is_open (entry_of c.self.inside.marks c.args.x t)) 0) (sym c.first_of.ensures ∙ c.in-Some.is)
    (c.self.invariant.first c.args.x)

pub returns-in-None : goal.returns-in-None
returns-in-None c = λ t l.
    let none : FirstFrom (λ t. is_open (entry_of c.self.inside.marks c.args.x t)) 0 None =
    subst (FirstFrom (λ t. is_open (entry_of c.self.inside.marks c.args.x t)) 0) (sym c.first_of.ensures ∙ c.in-None.is)
    (c.self.invariant.first c.args.x) in
    ap (λ v. is_open (entry_of v c.args.x t)) (sym c.self.view_is) ∙ none t (omega arith)
