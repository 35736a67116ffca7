-- The reading, line by line.
use Rattle.std.proofs.Common.{◌≡◌, ℕ, ◌+◌, ◌≤◌, List, [], ◌∷◌, length, map, refl, sym, ap, ◌∙◌, arith, None}
use Rattle.std.proofs.Common.{true, false, ◌<◌}
use Rattle.std.specs.Prelude.{nat_lt}
use Rattle.std.specs.Str.Lines.{lines}
use Rattle.std.proofs.lemmas.Bool.{le-ltb, lt-ltb}
use Rattle.sheaf_text.specs.Cut.{words}
use Rattle.sheaf_text.specs.Grammar.{Known, refusal}
use Rattle.sheaf_text.specs.declared.fault.Which.TheVariants as limits
use Rattle.sheaf_text.specs.declared.fault.Refusal.TheVariants.{Over}
use Rattle.sheaf_text.specs.Readings.{RefusedLine, nothing_known, run, reading}
use Rattle.sheaf_text.specs.Forms.{reading_at_end, go_on, contents, known_after}

-- one line of some bytes
pub run-line : (k : Known) (line : ℕ) (rest text after : List ℕ) → lines rest ≡ text ∷ lines after
    → run k line (contents rest) ≡ go_on (refusal k (words text)) (line + 1)
    (run (known_after k (words text)) (line + 1) (contents after))
unfolding run known_after
run-line k line rest text after e = ap (λ ls. run k line (map words ls)) e

pub run-taken : (k : Known) (line : ℕ) (rest text after : List ℕ) → lines rest ≡ text ∷ lines after
    → refusal k (words text) ≡ None → run (known_after k (words text)) (line + 1) (contents after)
    ≡ run k line (contents rest)
run-taken k line rest text after e accepted =
    sym (run-line k line rest text after e
    ∙ ap (λ o. go_on o (line + 1) (run (known_after k (words text)) (line + 1) (contents after))) accepted)

pub run-ends : (k : Known) (line : ℕ) (rest : List ℕ) → length rest ≡ 0 → run k line (contents rest)
    ≡ reading_at_end k line
unfolding run
run-ends k line [] e = refl
run-ends k line (b ∷ rest) e = absurd (omega arith)

pub reading-long : (bytes : List ℕ) → 16777216 < length bytes → reading bytes ≡ RefusedLine 0 (Over limits.Bytes)
unfolding reading
reading-long bytes long = let over : nat_lt 16777216 (length bytes) ≡ true = lt-ltb _ _ long in rw over refl

pub reading_is_run : (bytes : List ℕ) → length bytes ≤ 16777216 → reading bytes ≡ run nothing_known 0 (contents bytes)
unfolding reading
reading_is_run bytes short = let fits : nat_lt 16777216 (length bytes) ≡ false = le-ltb _ _ short in rw fits refl
