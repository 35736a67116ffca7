use Rattle.std.proofs.Common.{◌≡◌, ◌++◌, take}
use Rattle.reply_text.specs.Parts.{lines_text}
use Rattle.reply_text.specs.Reductions.{live_lines}
use Rattle.reply_text.proofs.reductions.put_all_live.Given as goal

abbrev pub invariant-loop-cell : goal.invariant-loop-cell
invariant-loop-cell l = l.out.items ≡ l.fn.out.items ++ lines_text (live_lines (take l.cell-index l.live))
