use Rattle.std.proofs.Common.{◌<◌, ℕ, ap, ◌∙◌, sym, subst, cond, eqb, length, get_or, Some, List, arith}
use Rattle.rising_lists.specs.Rising.{entry}
use Rattle.rising_lists.proofs.MergeLaws.{line-push, look-push, none-behind}
use Rattle.rising_lists.proofs.line.Line.push.Goals as goal

pub invariant_of-self-2 : goal.invariant_of-self-2
invariant_of-self-2 g c =
    let ks = c.self.inside.cells.items in
    let vs = c.self.inside.values.items in
    let behind : (i : ℕ) → i < length ks → get_or ks i 0 < c.args.c =
    subst (λ (cells : List ℕ). (i : ℕ) → i < length cells → get_or cells i 0 < c.args.c)
    (sym (ap (λ l. l.cells) c.self.view_is)) c.requires in
    rw (c.in_ok-push-2.ensures.items, c.in_ok-push.ensures.items, c.in_ok-reserve.ensures.items)
    (line-push ks vs c.args.c c.args.value c.self.invariant (none-behind ks vs c.args.c behind))

pub returns-clause-entries : goal.returns-clause-entries
returns-clause-entries g c = λ q.
    let ks = c.self.inside.cells.items in
    let vs = c.self.inside.values.items in
    let behind : (i : ℕ) → i < length ks → get_or ks i 0 < c.args.c =
    subst (λ (cells : List ℕ). (i : ℕ) → i < length cells → get_or cells i 0 < c.args.c)
    (sym (ap (λ l. l.cells) c.self.view_is)) c.requires in
    rw (c.in_ok-push-2.ensures.items, c.in_ok-push.ensures.items, c.in_ok-reserve.ensures.items)
    (look-push q ks vs c.args.c c.args.value c.self.invariant.full
    (none-behind ks vs c.args.c behind c.args.c (omega arith))
    ∙ ap (λ l. cond (eqb q c.args.c) (Some c.args.value) (entry l q)) c.self.view_is)
