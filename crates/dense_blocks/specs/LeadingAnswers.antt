-- The leading answers of an equation are unique.
use Rattle.std.specs.Prelude.{◌≡◌, ℕ, List, length, All}
use Rattle.dense_blocks.specs.Field.{Ops}
use Rattle.dense_blocks.specs.FieldLaws.{IsField}
use Rattle.dense_blocks.specs.Vectors.{AllScalars, IsVector}
use Rattle.dense_blocks.specs.Solutions.{Combines, Separates}

-- two leading combinations of the same columns that give the same vector are equal
abbrev pub OneLeadingCombination : Type 0
OneLeadingCombination = (K : Ops) → IsField K → (columns : List (List ℕ)) (v c d : List ℕ)
    → All (IsVector K (length v)) columns
    → Combines K columns v c → Combines K columns v d → c ≡ d

-- two leading functionals that separate the same vector from the same columns are equal
abbrev pub OneLeadingFunctional : Type 0
OneLeadingFunctional = (K : Ops) → IsField K → (columns : List (List ℕ)) (v p q : List ℕ)
    → All (IsVector K (length v)) columns → AllScalars K v
    → Separates K columns v p → Separates K columns v q → p ≡ q
