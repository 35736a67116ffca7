-- What is answered of a value at a cell.
use Rattle.std.specs.Prelude.{◌≡◌, ℕ, List}
use Rattle.dense_blocks.specs.Field.{Ops}
use Rattle.cochain_vec.specs.Complexes.{CellularComplex}
use Rattle.sections.specs.Extensions.{IsSectionWith, IsObstruction, IsLeadingSection, IsLeadingObstruction}
use Rattle.sections.specs.declared.extension.Extension.{Extension}
use Rattle.sections.specs.declared.extension.Extension.TheVariants as answers

-- by a basis of the global sections: the leading section that has the value v at s; or, where no section has it, the
-- leading obstruction
abbrev pub Extends : Ops → CellularComplex → List (List ℕ) → ℕ → List ℕ → Extension → Type 0
Extends K C basis s v (answers.Section z) = (z.degree ≡ 0) × IsSectionWith K C s v z.values.items
    × IsLeadingSection K C s v basis z.values.items
Extends K C basis s v (answers.NoSection functional) = ((z : List ℕ) → IsSectionWith K C s v z → ⊥)
    × IsObstruction K C s v functional.items × IsLeadingObstruction K C s v basis functional.items
