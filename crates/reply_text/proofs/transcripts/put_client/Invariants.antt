use Rattle.std.proofs.Common.{◌≡◌, ◌++◌, [], take}
use Rattle.reply_text.specs.Parts.{lines_text}
use Rattle.reply_text.specs.Transcripts.{client_lines}
use Rattle.reply_text.specs.Counts.{IsCountOf}
use Rattle.reply_text.proofs.transcripts.put_client.Given as goal

abbrev pub invariant-loop-event : goal.invariant-loop-event
invariant-loop-event l =
    (l.out.items ≡ l.fn.out.items ++ lines_text (client_lines l.fn.client l.fn.script [] (take l.event-index l.events)))
    × IsCountOf l.fn.client (take l.event-index l.events) l.counts
