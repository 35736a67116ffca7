use Rattle.std.proofs.Common.{sym}
use Rattle.sheaf_text.proofs.Cutting.{words_whole, words_first}
use Rattle.sheaf_text.proofs.cut.next_part.Goals as goal

pub returns-in-Some-clause-words : goal.returns-in-Some-clause-words
returns-in-Some-clause-words c = words_first c.args.text.now c.in-Some.end (sym c.in-Some.ensures)

pub returns-in-None-clause-words : goal.returns-in-None-clause-words
returns-in-None-clause-words c = words_whole c.args.text.now (sym c.in-None.ensures)
