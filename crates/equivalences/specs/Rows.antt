-- Rows of matrices, cell by cell.
use Rattle.std.specs.Prelude.{◌≡◌, ◌≤◌, ◌+◌, ◌*◌, ◌==◌, ℕ, Bool, true, false, List, [], ◌∷◌, take, drop, length}
use Rattle.std.specs.Prelude.{if◌then◌else◌, unwrap_or, All}
use Rattle.std.specs.List.{flat_map}
use Rattle.dense_blocks.specs.Field.{Ops}
use Rattle.dense_blocks.specs.Matrices.{cut, product}
use Rattle.dense_blocks.specs.MatrixFacts.{identity, matrix_sum}
use Rattle.rising_lists.specs.Rising.{ByCell, entry}

-- so many rows of the identity of n rows, from one on
abbrev pub unit_rows : (count start n : ℕ) → List (List ℕ)
unit_rows count start n = take count (drop start (identity n))

-- rows of n entries: those that are written, else rows of the identity
abbrev pub rows_of : (count start n : ℕ) → Bool → List ℕ → List (List ℕ)
rows_of count start n is_written entries = if is_written then cut count n entries else unit_rows count start n

-- there are so many rows, and so many entries
pub record AreRows (count start n : ℕ) (is_written : Bool) (entries : List ℕ) : Type 0 where
  pub count_fits : count ≤ 4096
  pub width_fits : n ≤ 4096
  pub units : is_written ≡ false → start + count ≤ n
  pub full : is_written ≡ true → length entries ≡ count * n

-- m rows of n entries
pub record HasShape (m n : ℕ) (A : List (List ℕ)) : Type 0 where
  pub count : length A ≡ m
  pub widths : All (λ row. length row ≡ n) A

-- the entries, row after row
abbrev pub entries_of : List (List ℕ) → List ℕ
entries_of A = flat_map (λ row. row) A

-- the rows at a cell; none where it has none
abbrev pub cell_rows_of : ByCell (List (List ℕ)) → ℕ → List (List ℕ)
cell_rows_of rows c = unwrap_or (entry rows c) []

-- A more, and coefficients times rows of n entries
abbrev pub with_product : Ops → ℕ → List (List ℕ) → List (List ℕ) → List (List ℕ) → List (List ℕ)
with_product K n A coefficients rows = matrix_sum K A (product K n coefficients rows)

-- what stands at the cell c once each listed cell has got its part of joined coefficients times rows of n entries more
abbrev pub with_products : Ops → ℕ → List (ℕ × ℕ) → (joined rows : List (List ℕ)) → ℕ → List (List ℕ)
    → List (List ℕ)
with_products K n [] joined rows c A = A
with_products K n (l ∷ ls) joined rows c A = with_products K n ls (drop l.1 joined) rows c
    (if l.0 == c then with_product K n A (take l.1 joined) rows else A)
