use Rattle.std.proofs.Common.{sym, ap, ◌∙◌}
use Rattle.sheaf_text.specs.Cut.{words}
use Rattle.sheaf_text.specs.Lines.{is_skipped}
use Rattle.sheaf_text.proofs.Steps.{takes_skipped}
use Rattle.sheaf_text.proofs.state.State.take.Goals as goal

pub returns-in_default-clause-ok : goal.returns-in_default-clause-ok
returns-in_default-clause-ok c =
    takes_skipped c.args.self.now (words c.args.text.now) c.requires (ap is_skipped c.in_default.ensures)

pub returns-then-is_skipped-clause-ok : goal.returns-then-is_skipped-clause-ok
returns-then-is_skipped-clause-ok c = takes_skipped c.args.self.now (words c.args.text.now) c.requires
    (ap is_skipped c.in-Some.ensures.words_are ∙ sym c.is_skipped.ensures ∙ c.if-is_skipped.true)
