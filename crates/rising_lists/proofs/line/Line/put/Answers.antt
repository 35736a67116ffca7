use Rattle.std.proofs.Common.{ap, ◌∙◌, sym, eqb, cond}
use Rattle.std.specs.Option.{option_map}
use Rattle.rising_lists.specs.Rising.{entry, look}
use Rattle.rising_lists.proofs.Keyed.{look-put, look-absent, look-spared}
use Rattle.rising_lists.proofs.line.Line.put.Goals as goal

pub returns-in-Some : goal.returns-in-Some
returns-in-Some g c = λ q.
    let h = rw c.deref.ensures.value at c.in-Some.ensures in
    look-put c.self.inside.cells.items c.self.inside.values.items c.args.c c.in-Some.at c.args.value
    c.self.invariant.full c.self.invariant.rising h.0 h.1 q
    ∙ ap (λ e. cond (eqb q c.args.c) (option_map (λ _. c.args.value) (entry e c.args.c)) (entry e q)) c.self.view_is

pub returns-in_default : goal.returns-in_default
returns-in_default g c = λ q.
    let none = rw c.deref.ensures.value at c.in_default.ensures in
    let ks = c.self.inside.cells.items in
    let vs = c.self.inside.values.items in
    ap (λ e. entry e q) (sym c.self.view_is)
    ∙ look-spared ks vs c.args.c q (option_map (λ _. c.args.value) (look c.args.c ks vs)) none
    (ap (option_map (λ _. c.args.value)) (look-absent c.args.c ks vs none))
    ∙ ap (λ e. cond (eqb q c.args.c) (option_map (λ _. c.args.value) (entry e c.args.c)) (entry e q)) c.self.view_is
