use Rattle.std.proofs.Common.{sym}
use Rattle.sheaf_text.proofs.Cutting.{lines_whole, lines_first}
use Rattle.sheaf_text.proofs.cut.next_line.Goals as goal

pub returns-in-Some-clause-line : goal.returns-in-Some-clause-line
returns-in-Some-clause-line c =
    rw c.without_return.ensures (lines_first c.args.bytes.now c.in-Some.end (sym c.in-Some.ensures))

pub returns-in-None-clause-line : goal.returns-in-None-clause-line
returns-in-None-clause-line c = lines_whole c.args.bytes.now c.requires (sym c.in-None.ensures)
