use Rattle.std.proofs.Common.{◌≡◌, eqb, true}
use Rattle.std.specs.List.{list_all}
use Rattle.reply_text.proofs.BlockLines.{first_entries}
use Rattle.reply_text.proofs.blocks.is_zero_between.Given as goal

abbrev pub invariant-loop-i : goal.invariant-loop-i
invariant-loop-i l = list_all (λ e. eqb e 0) (first_entries l.i l.block l.s l.t) ≡ true
