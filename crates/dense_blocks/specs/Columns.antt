-- Columns brought to those of the identity, one by one.
use Rattle.std.specs.Prelude.{◌≡◌, ◌≢◌, ℕ, zero, suc, ◌+◌, ◌-◌, ◌*◌, ◌<◌, Bool, true, false, List, [], ◌∷◌, ◌++◌, map}
use Rattle.std.specs.Prelude.{take, drop, All, slice_index}
use Rattle.dense_blocks.specs.Field.{Ops}
use Rattle.dense_blocks.specs.Vectors.{IsVector, zeros, plus, multiple, dot}
use Rattle.dense_blocks.specs.MatrixFacts.{IsMatrix}

-- the row less as many times the pivot as the row's entry in the column says
abbrev pub row_remainder : Ops → ℕ → List ℕ → List ℕ → List ℕ
row_remainder K column pivot row = plus K row (multiple K (K.neg (slice_index row column)) pivot)

-- each row is 0 on x
abbrev pub Annihilate : Ops → List (List ℕ) → List ℕ → Type 0
Annihilate K [] x = Unit {0}
Annihilate K (row ∷ rows) x = (dot K row x ≡ 0) × Annihilate K rows x

-- the unit vector of n coordinates with its 1 at i; zero where i is no place of it
abbrev pub unit : ℕ → ℕ → List ℕ
unit zero i = []
unit (suc n) zero = 1 ∷ zeros n
unit (suc n) (suc i) = 0 ∷ unit n i

-- the first n entries of each row are those of a unit vector, with the 1 at i in the first row, and one later in each
-- next one
abbrev pub StartUnits : ℕ → ℕ → List (List ℕ) → Type 0
StartUnits n i [] = Unit {0}
StartUnits n i (row ∷ rows) = (take n row ≡ unit n i) × StartUnits n (suc i) rows

-- n rows of 2 n entries that kill the same vectors as those of before, and whose first columns are those of the
-- identity
pub record HasUnitColumns (K : Ops) (n columns : ℕ) (before now : List (List ℕ)) : Type 0 where
  pub matrix : IsMatrix K n (2 * n) now
  pub there : (x : List ℕ) → Annihilate K before x → Annihilate K now x
  pub back : (x : List ℕ) → Annihilate K now x → Annihilate K before x
  pub units : StartUnits columns 0 now

-- the next column has only zeros from the diagonal on
pub record HasNoPivot (K : Ops) (n column : ℕ) (before now : List (List ℕ)) : Type 0 where
  pub inside : column < n
  pub so_far : HasUnitColumns K n column before now
  pub zero : All (λ row. slice_index row column ≡ 0) (drop column now)

-- one more column is cleared, or there are only zeros from the diagonal on
abbrev pub ClearsColumn : Ops → ℕ → ℕ → List (List ℕ) → List (List ℕ) → Bool → Type 0
ClearsColumn K n column old new true = (before : List (List ℕ)) → HasUnitColumns K n column before old
    → HasUnitColumns K n (column + 1) before new
ClearsColumn K n column old new false = (new ≡ old) × All (λ row. slice_index row column ≡ 0) (drop column old)

-- where the rows below are 0 the row is what it was; its entry in the column is not 0
pub record IsRaised (K : Ops) (column width : ℕ) (below : List (List ℕ)) (old new : List ℕ) : Type 0 where
  pub vector : IsVector K width new
  pub same : (x : List ℕ) → Annihilate K below x → dot K new x ≡ dot K old x
  pub start : StartUnits column column (old ∷ below) → take column new ≡ zeros column
  pub not_zero : slice_index new column ≢ 0

-- raised, or the entries in the column are 0
abbrev pub Raises : Ops → ℕ → ℕ → List (List ℕ) → List ℕ → List ℕ → Bool → Type 0
Raises K column width below old new true = IsRaised K column width below old new
Raises K column width below old new false = (new ≡ old) × (slice_index old column ≡ 0)
    × All (λ row. slice_index row column ≡ 0) below

-- rows side by side
abbrev pub beside : List (List ℕ) → List (List ℕ) → List (List ℕ)
beside [] B = []
beside (a ∷ A) [] = []
beside (a ∷ A) (b ∷ B) = (a ++ b) ∷ beside A B

-- the vector that undoes a column by its entries above the diagonal
abbrev pub kernel_vector : Ops → ℕ → ℕ → List (List ℕ) → List ℕ
kernel_vector K n column rows =
    map (λ row. K.neg (slice_index row column)) (take column rows) ++ 1 ∷ zeros (n - 1 - column)
