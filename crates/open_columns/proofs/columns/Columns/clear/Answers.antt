use Rattle.std.proofs.Common.{ap, ◌∙◌, cond, None, refl, sym, subst}
use Rattle.rising_lists.specs.Rising.{entry_of}
use Rattle.std.proofs.lemmas.Bool.{eq-eqb, ne_eqb}
use Rattle.open_columns.specs.Open.{is_open, AreFirst}
use Rattle.open_columns.proofs.OpenLaws.{first-replaced}
use Rattle.open_columns.proofs.columns.Columns.clear.Goals as goal

pub invariant_of-self : goal.invariant_of-self
invariant_of-self c =
    let marks = c.self.inside.marks in
    let x = c.args.x in
    subst (AreFirst c.clear.new.self) (sym c.pass.ensures)
    (first-replaced marks c.clear.new.self c.self.inside.firsts c.put.new.self x None c.self.invariant
    c.clear.ensures.cells
    (λ k n t. c.clear.ensures.entries k t ∙ ap (λ b. cond b None (entry_of marks k t)) (ne_eqb k x n))
    c.put.ensures
    (λ h t l. ap is_open (c.clear.ensures.entries x t ∙ ap (λ b. cond b None (entry_of marks x t)) (eq-eqb x x refl))))
