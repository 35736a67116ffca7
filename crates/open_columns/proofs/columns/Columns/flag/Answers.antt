use Rattle.std.proofs.Common.{ap, ◌∙◌, sym, cond, eqb, ◌&&◌, true}
use Rattle.std.specs.Option.{option_map}
use Rattle.std.proofs.lemmas.Bool.{ne_eqb}
use Rattle.rising_lists.specs.Rising.{entry, entry_of}
use Rattle.open_columns.specs.Open.{is_open, first_of}
use Rattle.open_columns.proofs.OpenLaws.{first-renewed, fewer, flag-closes}
use Rattle.open_columns.proofs.columns.Columns.flag.Goals as goal

pub renew-requires : goal.renew-requires
renew-requires c =
    let marks = c.self.inside.marks in
    let x = c.args.x in
    fewer (λ t. is_open (entry_of marks x t)) (λ t. is_open (entry_of c.put.new.self x t))
    (first_of (entry c.self.inside.firsts x))
    (λ t h. flag-closes (eqb x x && eqb t c.args.t) c.in-Some.mark.now.square (entry_of marks x c.args.t)
    (entry_of marks x t) (ap is_open (sym (c.put.ensures.entries x t)) ∙ h))
    (c.self.invariant.first x)

pub invariant_of-self : goal.invariant_of-self
invariant_of-self c =
    let marks = c.self.inside.marks in
    let x = c.args.x in
    first-renewed marks c.put.new.self c.self.inside.firsts c.renew.new.firsts x c.self.invariant c.put.ensures.cells
    c.renew.ensures.noted
    (λ k n t. c.put.ensures.entries k t
    ∙ ap (λ b. cond (b && eqb t c.args.t)
    (option_map (λ _. record { flagged = true; square = c.in-Some.mark.now.square })
    (entry_of marks x c.args.t)) (entry_of marks k t)) (ne_eqb k x n))
    c.renew.ensures.others c.renew.ensures.first
