use Rattle.std.proofs.Common.{◌≡◌, ◌+◌, ◌≤◌, ◌<◌, ℕ, length, ltb}
use Rattle.std.specs.Prelude.{◌&&◌}
use Rattle.std.specs.List.{list_all}
use Rattle.sheaf_text.specs.Cut.{words}
use Rattle.sheaf_text.specs.Forms.{is_number, are_below}
use Rattle.sheaf_text.proofs.numerals.Numerals.of.Given as goal

abbrev pub invariant-loop-word : goal.invariant-loop-word
invariant-loop-word l = record {
  counted : length (words l.text) ≡ l.count + length (words l.rest);
  within : l.count + length l.rest ≤ length l.text;
  numbers : list_all is_number (words l.text) ≡ (l.are_numbers && list_all is_number (words l.rest));
  below : (order : ℕ) → 0 < order → are_below order (words l.text)
      ≡ (ltb l.highest order && are_below order (words l.rest));
}

abbrev pub decreases-loop-word : goal.decreases-loop-word
decreases-loop-word l = length l.rest
