use Rattle.std.proofs.Common.{rules, refl}
use Rattle.reply_text.proofs.Counting.{counted-more}
use Rattle.reply_text.proofs.counts.Counts.after.Goals as goal

pub returns-then-asks_for : goal.returns-then-asks_for
returns-then-asks_for c = counted-more c.args.client c.args.event.now c.args.self _ c.from.result c.from-2.result
    (search rules) (search rules) refl refl (search rules)

pub returns-else-asks_for : goal.returns-else-asks_for
returns-else-asks_for c = counted-more c.args.client c.args.event.now c.args.self _ c.from.result c.from-2.result
    (search rules) (search rules) refl refl (search rules)
