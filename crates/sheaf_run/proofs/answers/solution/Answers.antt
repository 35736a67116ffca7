use Rattle.std.proofs.Common.{sym, subst}
use Rattle.field_table.specs.Table.{ops_of}
use Rattle.reply_text.specs.ClientEvents.{AreOf}
use Rattle.core_machine.proofs.CountLaws.{events_are_answers}
use Rattle.sheaf_run.proofs.answers.solution.Goals as goal

pub transcript-requires-clause-of : goal.transcript-requires-clause-of
transcript-requires-clause-of c =
    let order = c.in_ok-events.ensures.legal in
    subst (AreOf c.args.scripts.now) (sym c.deref.ensures.value)
    (events_are_answers (ops_of c.args.sheaf.field) c.args.scripts.now c.args.sheaf c.in_ok-events.events.items
    order.last order.legal)

pub session_events-requires-clause-served : goal.session_events-requires-clause-served
session_events-requires-clause-served c = c.requires.each
