use Rattle.std.proofs.Common.{◌≡◌, ◌++◌, take}
use Rattle.reply_text.specs.Parts.{lines_text}
use Rattle.reply_text.specs.Replies.{vector_lines}
use Rattle.reply_text.proofs.classes.put_vectors.Given as goal

abbrev pub invariant-loop-vector : goal.invariant-loop-vector
invariant-loop-vector l = l.out.items ≡ l.fn.out.items ++ lines_text (vector_lines (take l.vector-index l.vectors))
