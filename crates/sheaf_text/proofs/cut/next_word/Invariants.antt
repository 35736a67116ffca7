use Rattle.std.proofs.Common.{◌≡◌, ◌≤◌, length}
use Rattle.sheaf_text.specs.Cut.{words}
use Rattle.sheaf_text.proofs.cut.next_word.Given as goal

abbrev pub invariant-loop-rest : goal.invariant-loop-rest
invariant-loop-rest l = record {
  same : words l.text ≡ words l.rest;
  within : length l.rest ≤ length l.text;
}

abbrev pub decreases-loop-rest : goal.decreases-loop-rest
decreases-loop-rest l = length l.rest
