use Rattle.std.proofs.Common.{◌≡◌, ◌++◌, true, length, map}
use Rattle.sheaf_text.specs.Cut.{words, value_of}
use Rattle.sheaf_text.specs.Forms.{are_below}
use Rattle.sheaf_text.proofs.words.scalars.Given as goal

abbrev pub invariant-loop-word : goal.invariant-loop-word
invariant-loop-word l = record {
  so_far : map value_of (words l.text) ≡ l.scalars ++ map value_of (words l.rest);
  below : are_below l.order (words l.rest) ≡ true;
}

abbrev pub decreases-loop-word : goal.decreases-loop-word
decreases-loop-word l = length l.rest
