use Rattle.std.proofs.Common.{arith}
use Rattle.sheaf_run.proofs.session.Session.serve_all.Goals as goal

pub serve-requires-clause-room : goal.serve-requires-clause-room
serve-requires-clause-room c =
    omega (arith, c.loop-command.invariant.2, c.requires.room, c.loop-command-test.true)

pub returns-clause-version : goal.returns-clause-version
returns-clause-version c = omega (arith, c.loop-command.invariant.2, c.loop-command-test.false)
