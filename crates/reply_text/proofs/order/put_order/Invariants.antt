use Rattle.std.proofs.Common.{◌≡◌, ◌++◌, [], take, length}
use Rattle.reply_text.specs.Parts.{lines_text, order_lines}
use Rattle.reply_text.specs.Counts.{AreCounted}
use Rattle.reply_text.proofs.order.put_order.Given as goal

abbrev pub invariant-loop-event : goal.invariant-loop-event
invariant-loop-event l =
    (l.out.items ≡ l.fn.out.items ++ lines_text (order_lines [] (take l.event-index l.events)))
    × AreCounted (take l.event-index l.events) l.counts.items × (length l.counts.items ≡ length l.fn.scripts)
