use Rattle.std.proofs.Common.{sym, arith}
use Rattle.reply_text.proofs.BlockLines.{row-beyond}
use Rattle.reply_text.proofs.blocks.row_between.Goals as goal

pub returns-then-i-rows : goal.returns-then-i-rows
returns-then-i-rows c = sym (row-beyond c.args.block.now c.args.s c.args.t c.args.i (omega arith))
