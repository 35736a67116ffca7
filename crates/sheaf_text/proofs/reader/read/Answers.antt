use Rattle.std.proofs.Common.{subst, sym}
use Rattle.sheaf_text.specs.Readings.{Reading}
use Rattle.sheaf_text.specs.Answers.{Gives}
use Rattle.sheaf_text.proofs.Kept.{reading-long, reading_is_run}
use Rattle.sheaf_text.proofs.Few.{few_given}
use Rattle.sheaf_text.proofs.reader.read.Goals as goal

pub returns-then-bytes-gt-MOST_BYTES-clause-gives : goal.returns-then-bytes-gt-MOST_BYTES-clause-gives
returns-then-bytes-gt-MOST_BYTES-clause-gives c = reading-long c.args.bytes.now c.if-bytes-gt-MOST_BYTES.true

pub returns-clause-gives : goal.returns-clause-gives
returns-clause-gives c = subst (λ (r : Reading). Gives c.read_lines.result r)
    (sym (reading_is_run c.args.bytes.now c.if-bytes-gt-MOST_BYTES.false)) c.read_lines.ensures

pub returns-clause-few : goal.returns-clause-few
returns-clause-few c = few_given c.args.bytes.now c.read_lines.result c.if-bytes-gt-MOST_BYTES.false
    c.read_lines.ensures
