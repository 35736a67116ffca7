use Rattle.std.proofs.Common.{◌++◌, subst, sym, ap, ◌∙◌}
use Rattle.reduce_step.specs.Logs.{pairs_of}
use Rattle.sheaf_run.specs.Sessions.{HasReduction, Progress, pair_events}
use Rattle.sheaf_run.proofs.ServingLaws.{known-reduction, first-asked}
use Rattle.sheaf_run.proofs.session.Session.reduce.Goals as goal

pub returns-then-is_some-clause-known : goal.returns-then-is_some-clause-known
returns-then-is_some-clause-known c =
    let s = c.self.inside in
    let p : Progress = record { sheaf = s.sheaf; version = s.version; slot = s.answerer; events = s.events.items } in
    subst HasReduction c.self.view_is (known-reduction p (sym c.if-is_some.ensures) c.self.invariant)

pub returns-clause-reduced : goal.returns-clause-reduced
returns-clause-reduced c =
    let s = c.self.inside in
    let p : Progress = record { sheaf = s.sheaf; version = s.version; slot = s.answerer; events = s.events.items } in
    first-asked p c.args.self.now c.in_ok-slot.slot c.new.result c.push_pairs.new.events.items c.self.view_is
    (sym c.if-is_some.ensures) c.in_ok-slot.ensures
    (c.in_ok-push_pairs.ensures
    ∙ ap (λ log. s.events.items ++ pair_events s.version (pairs_of log)) c.log.ensures)
    c.new.ensures
