-- The verdict on what all sets of an edit make, apart from that on the sets.
use Rattle.std.specs.Prelude.{◌≡◌, ℕ, Option, MatchBool, sum, nat_lt}
use Rattle.std.specs.Option.{option_map_or}
use Rattle.cell_complex.specs.Complexes.{CellComplex}
use Rattle.dense_blocks.specs.Field.{Ops}
use Rattle.sheaf_words.specs.declared.edit.Cause.TheVariants.{TotalLimit, Square}
use Rattle.sheaf_words.specs.declared.edit.Verdict.{Verdict}
use Rattle.sheaf_words.specs.declared.edit.Verdict.TheVariants.{Accepted, Refused}
use Rattle.edit_versions.specs.Edits.{SheafLists}
use Rattle.edit_versions.specs.Verdicts.{IsSquareVerdict}

-- accepted where no square fails, else refused for this one
abbrev pub verdict_on_square : Option (ℕ × ℕ) → Verdict
verdict_on_square bad = option_map_or (λ p. Refused (Square p.0 p.1)) bad Accepted

-- the verdict on what all sets make: too large a total, else that on the restrictions
abbrev pub IsListVerdict : Ops → CellComplex → Verdict → SheafLists → Type 0
IsListVerdict K c v l = MatchBool (nat_lt 4096 (sum l.stalks)) (v ≡ Refused TotalLimit)
    (IsSquareVerdict K c l.matrices v)
