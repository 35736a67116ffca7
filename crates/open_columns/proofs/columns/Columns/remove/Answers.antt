use Rattle.std.proofs.Common.{ap, ◌∙◌, sym, cond, eqb, ◌&&◌, None}
use Rattle.std.proofs.lemmas.Bool.{ne_eqb}
use Rattle.rising_lists.specs.Rising.{entry, entry_of}
use Rattle.open_columns.specs.Open.{is_open, first_of}
use Rattle.open_columns.proofs.OpenLaws.{first-renewed, fewer, removal-closes}
use Rattle.open_columns.proofs.columns.Columns.remove.Goals as goal

pub renew-requires : goal.renew-requires
renew-requires c =
    let marks = c.self.inside.marks in
    let x = c.args.x in
    fewer (λ t. is_open (entry_of marks x t)) (λ t. is_open (entry_of c.remove.new.self x t))
    (first_of (entry c.self.inside.firsts x))
    (λ t h. removal-closes (eqb x x && eqb t c.args.t) (entry_of marks x t)
    (ap is_open (sym (c.remove.ensures.entries x t)) ∙ h))
    (c.self.invariant.first x)

pub invariant_of-self : goal.invariant_of-self
invariant_of-self c =
    let marks = c.self.inside.marks in
    let x = c.args.x in
    first-renewed marks c.remove.new.self c.self.inside.firsts c.renew.new.firsts x c.self.invariant
    c.remove.ensures.cells c.renew.ensures.noted
    (λ k n t. c.remove.ensures.entries k t ∙ ap (λ b. cond (b && eqb t c.args.t) None (entry_of marks k t))
    (ne_eqb k x n))
    c.renew.ensures.others c.renew.ensures.first
