-- The dimension of cohomology is one number.
use Rattle.std.specs.Prelude.{◌≡◌, ℕ, List, length}
use Rattle.dense_blocks.specs.Field.{Ops}
use Rattle.dense_blocks.specs.FieldLaws.{IsField}
use Rattle.cochain_vec.specs.Complexes.{CellularComplex}
use Rattle.cochain_vec.specs.Shapes.{RowsFit}
use Rattle.cochain_vec.specs.Cohomology.{IsBasis, HasDimension, AreDimensions}

-- any two bases of the cohomology of degree k have the same length, so that it has one dimension
pub record HasOneDimension (K : Ops) (F : CellularComplex) (k : ℕ) : Type 0 where
  pub bases : (A B : List (List ℕ)) → IsBasis K F k A → IsBasis K F k B → length A ≡ length B
  pub dimensions : (m n : ℕ) → HasDimension K F k m → HasDimension K F k n → m ≡ n

-- over every field that is so in each degree, and only one list of numbers is that of the dimensions
abbrev pub DimensionsAgree : Type 0
DimensionsAgree = (K : Ops) (F : CellularComplex) → IsField K → RowsFit F
    → ((k : ℕ) → HasOneDimension K F k)
    × ((degrees : ℕ) (a b : List ℕ) → AreDimensions K F degrees a → AreDimensions K F degrees b → a ≡ b)
