use Rattle.std.proofs.Common.{◌≡◌, take}
use Rattle.rising_lists.proofs.lines.Lines.copy.Given as goal

abbrev pub invariant-loop-line : goal.invariant-loop-line
invariant-loop-line g l = l.lines.items ≡ take l.line-index l.line-items
