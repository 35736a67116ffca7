use Rattle.std.proofs.Common.{◌≡◌, ◌≤◌, take, length}
use Rattle.std.specs.Prelude.{sum_by}
use Rattle.sheaf_run.specs.Sessions.{IsProgress}
use Rattle.sheaf_run.proofs.session.session_events.Given as goal

abbrev pub invariant-loop-script : goal.invariant-loop-script
invariant-loop-script l =
    (l.client ≡ l.script-index) × IsProgress l.fn.scripts l.fn.sheaf l.script-index 0 l.session
    × (l.session.sheaf.complex ≡ l.fn.sheaf.complex) × (l.session.version ≤ sum_by length (take l.script-index l.fn.scripts))
