-- Rising lists of cells, and values by cell.
use Rattle.std.specs.Prelude.{◌≡◌, ◌<◌, ◌==◌, ◌||◌, ℕ, Bool, false, List, [], ◌∷◌, Option, Some, None, ◌&&◌, nat_lt}
use Rattle.std.specs.Prelude.{◌+◌, ◌≤◌, ◌⊎◌, zero, suc, if◌then◌else◌, length, map, take, slice_index, unwrap_or}

-- each cell is less than each later one
abbrev pub IsRising : List ℕ → Type 0
IsRising cells = (i j : ℕ) → i < j → j < length cells → slice_index cells i < slice_index cells j

-- whether the cell is listed
abbrev pub has : ℕ → List ℕ → Bool
has c [] = false
has c (k ∷ ks) = k == c || has c ks

-- the value at a cell, where cells and values go side by side
abbrev pub look : {A : Type 0} → ℕ → List ℕ → List A → Option A
look c [] vs = None
look c (k ∷ ks) [] = None
look c (k ∷ ks) (v ∷ vs) = if k == c then Some v else look c ks vs

-- values by cell: some cells, and beside each its value
pub record ByCell (A : Type 0) : Type 0 where
  pub cells : List ℕ
  pub values : List A

-- one value for each cell, and the cells rise
pub record IsLine {A : Type 0} (line : ByCell A) : Type 0 where
  pub rising : IsRising line.cells
  pub full : length line.values ≡ length line.cells

-- the value at a cell
abbrev pub entry : {A : Type 0} → ByCell A → ℕ → Option A
entry line c = look c line.cells line.values

-- the line of a cell: empty where there is none
abbrev pub line_of : {A : Type 0} → ByCell (ByCell A) → ℕ → ByCell A
line_of lines c = unwrap_or (entry lines c) (record { cells = []; values = [] })

-- the value at a cell of the line of a cell
abbrev pub entry_of : {A : Type 0} → ByCell (ByCell A) → ℕ → ℕ → Option A
entry_of lines c q = entry (line_of lines c) q

-- the cells of a list of cells with sizes
abbrev pub keys : List (ℕ × ℕ) → List ℕ
keys sized = map (λ s. s.0) sized

-- what stands at a cell once the listed cells have got fresh values, or none, and the others keep what they had
abbrev pub entry_after : {A : Type 0} → List ℕ → List (Option A) → Option A → ℕ → Option A
entry_after listed fresh had c = unwrap_or (look c listed fresh) had

-- the value, if the entry is not 0
abbrev pub value_if : {A : Type 0} → A → ℕ → Option A
value_if v e = if e == 0 then None else Some v

-- the entry, if it is not 0
abbrev pub nonzero_entry : ℕ → Option ℕ
nonzero_entry e = if e == 0 then None else Some e

-- n members of a list from a place on, each the same number of places after the one before
abbrev pub strided : List ℕ → ℕ → ℕ → ℕ → List ℕ
strided xs at step zero = []
strided xs at step (suc n) = slice_index xs at ∷ strided xs (at + step) step n

-- whether the cell stands at the place
abbrev pub stands : List ℕ → ℕ → ℕ → Bool
stands cells i c = nat_lt i (length cells) && (slice_index cells i == c)

-- the place after this one where the cell stands at it, else the same place
abbrev pub past : List ℕ → ℕ → ℕ → ℕ
past cells i c = if stands cells i c then i + 1 else i

-- c is the least cell of two rising lists from the places i and j on; where both have it there, it is that of the
-- second
pub record IsNext (first second : List ℕ) (i j c : ℕ) : Type 0 where
  pub in_first : i < length first → c ≤ slice_index first i
  pub in_second : j < length second → c ≤ slice_index second j
  pub is : ((j < length second) × (slice_index second j ≡ c))
      ⊎ ((i < length first) × (slice_index first i ≡ c) × (j < length second → c < slice_index second j))

-- the first n cells and values of two lists make the line of an old one once the listed cells have got fresh values
pub record IsMerge {A : Type 0} (old : List ℕ) (vs : List A) (listed : List ℕ) (fresh : List (Option A)) (n : ℕ)
    (cells : List ℕ) (values : List A) : Type 0 where
  pub line : IsLine {A = A} (record { cells = take n cells; values = take n values })
  pub entries : (q : ℕ) → look q (take n cells) (take n values) ≡ entry_after listed fresh (look q old vs) q
