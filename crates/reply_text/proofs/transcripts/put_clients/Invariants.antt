use Rattle.std.proofs.Common.{◌≡◌, ◌++◌, take}
use Rattle.reply_text.specs.Parts.{lines_text, clients_lines}
use Rattle.reply_text.proofs.transcripts.put_clients.Given as goal

abbrev pub invariant-loop-script : goal.invariant-loop-script
invariant-loop-script l =
    (l.out.items ≡ l.fn.out.items ++ lines_text (clients_lines 0 (take l.script-index l.scripts) l.fn.events))
    × (l.client ≡ l.script-index)
