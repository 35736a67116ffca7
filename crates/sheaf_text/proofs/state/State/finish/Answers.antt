use Rattle.std.proofs.Common.{sym, ◌∙◌}
use Rattle.sheaf_text.proofs.Steps.{ending-good}
use Rattle.sheaf_text.proofs.state.State.finish.Goals as goal

pub returns : goal.returns
returns c = ending-good c.args.self c.into_draft.result c.of.result c.args.line c.requires.sound (sym c.is_ended.ensures
    ∙ c.if-not-is_ended.false) c.into_draft.ensures c.of.ensures
