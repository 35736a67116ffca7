use Rattle.std.proofs.Common.{ap, ◌∙◌, sym, cond, eqb, ◌&&◌}
use Rattle.std.specs.Option.{option_map}
use Rattle.rising_lists.specs.Rising.{ByCell, entry, entry_of, line_of}
use Rattle.rising_lists.proofs.LineLaws.{line-found, line-absent, entry-set, entry-spared}
use Rattle.rising_lists.proofs.lines.Lines.put.Goals as goal

pub returns-in-Some-clause-entries : goal.returns-in-Some-clause-entries
returns-in-Some-clause-entries g c = λ k p.
    let h = rw c.deref.ensures.value at c.in-Some.ensures in
    let ks = c.self.inside.cells.items in
    let vs = c.self.inside.lines.items in
    let line = c.index_mut-line.result.now in
    let put = λ (l : ByCell g.row.T.Denot). option_map (λ _. c.args.value) (entry l c.args.q) in
    let here = eqb k c.args.c && eqb p c.args.q in
    entry-set ks vs c.args.c c.in-Some.at c.args.q line c.put.new.self (put line) c.self.invariant h.0 h.1
    c.index_mut-line.ensures.value c.put.ensures k p
    ∙ ap (λ l. cond here (put l) (entry_of (record { cells = ks; values = vs }) k p))
    (sym (line-found ks vs c.args.c c.in-Some.at line c.self.invariant h.0 h.1 c.index_mut-line.ensures.value))
    ∙ ap (λ w. cond here (put (line_of w c.args.c)) (entry_of w k p)) c.self.view_is

pub returns-in_default-clause-entries : goal.returns-in_default-clause-entries
returns-in_default-clause-entries g c = λ k p.
    let none = rw (c.deref.ensures.value, ap (λ l. l.cells) c.self.view_is) at c.in_default.ensures in
    let put = λ (l : ByCell g.row.T.Denot). option_map (λ _. c.args.value) (entry l c.args.q) in
    entry-spared c.args.self.now c.args.c c.args.q (put (line_of c.args.self.now c.args.c)) none
    (ap put (line-absent c.args.self.now.cells c.args.self.now.values c.args.c none)) k p
