use Rattle.std.proofs.Common.{ap, ◌∙◌, sym, eqb, cond, None, refl, arith}
use Rattle.std.proofs.lemmas.List.Edits.{length-remove}
use Rattle.rising_lists.specs.Rising.{entry}
use Rattle.rising_lists.proofs.Keyed.{look-taken, rising-remove, look-spared}
use Rattle.rising_lists.proofs.line.Line.remove.Goals as goal

pub invariant_of-self : goal.invariant_of-self
invariant_of-self g c =
    let h = rw c.deref.ensures.value at c.in-Some.ensures in
    let i = c.in-Some.at in
    rw (c.remove.ensures.items, c.remove-value.ensures.items) record {
      rising = rising-remove c.self.inside.cells.items c.self.invariant.rising i h.0;
      full = omega (
        arith,
        length-remove c.self.inside.cells.items i h.0,
        length-remove c.self.inside.values.items i
            (omega (arith, h.0, c.self.invariant.full)),
        c.self.invariant.full,
      );
    }

pub returns-in-Some : goal.returns-in-Some
returns-in-Some g c = λ q.
    let h = rw c.deref.ensures.value at c.in-Some.ensures in
    rw (c.remove.ensures.items, c.remove-value.ensures.items)
    (look-taken c.self.inside.cells.items c.self.inside.values.items c.args.c c.in-Some.at c.self.invariant.full
    c.self.invariant.rising h.0 h.1 q
    ∙ ap (λ e. cond (eqb q c.args.c) None (entry e q)) c.self.view_is)

pub returns-in_default : goal.returns-in_default
returns-in_default g c = λ q.
    let none = rw c.deref.ensures.value at c.in_default.ensures in
    ap (λ e. entry e q) (sym c.self.view_is)
    ∙ look-spared c.self.inside.cells.items c.self.inside.values.items c.args.c q None none refl
    ∙ ap (λ e. cond (eqb q c.args.c) None (entry e q)) c.self.view_is
