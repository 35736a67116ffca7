use Rattle.std.proofs.Common.{sym, ◌∙◌, arith}
use Rattle.sheaf_text.proofs.Cutting.{drop_more, drop_ends}
use Rattle.sheaf_text.proofs.words.after_words.Goals as goal

pub returns-in-None : goal.returns-in-None
returns-in-None c = drop_ends _ c.loop-i.i c.args.count (sym c.loop-i.invariant ∙ c.in-None.ensures) (omega arith)

pub loop-i-preserved : goal.loop-i-preserved
loop-i-preserved c = drop_more _ c.loop-i.i _ _ (sym c.loop-i.invariant ∙ c.in-Some.ensures.words_are)
