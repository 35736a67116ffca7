use Rattle.std.proofs.Common.{ap, ◌∙◌, sym, cond, eqb, arith}
use Rattle.rising_lists.specs.Rising.{look}
use Rattle.rising_lists.proofs.MergeLaws.{line-push, look-push}
use Rattle.rising_lists.proofs.merges.append.Goals as goal

pub returns-in_ok-push-2-clause-line : goal.returns-in_ok-push-2-clause-line
returns-in_ok-push-2-clause-line g c =
    rw (c.in_ok-push.ensures.items, c.in_ok-push-2.ensures.items)
    (line-push c.args.cells.now.items c.args.values.now.items c.args.c c.in-Some.value c.requires.line c.requires.later)

pub returns-in_ok-push-2-clause-entries : goal.returns-in_ok-push-2-clause-entries
returns-in_ok-push-2-clause-entries g c = λ q.
    let ks = c.args.cells.now.items in
    let vs = c.args.values.now.items in
    rw (c.in_ok-push.ensures.items, c.in_ok-push-2.ensures.items)
    (look-push q ks vs c.args.c c.in-Some.value c.requires.line.full (c.requires.later c.args.c (omega arith))
    ∙ ap (λ x. cond (eqb q c.args.c) x (look q ks vs)) (sym c.in-Some.is))
