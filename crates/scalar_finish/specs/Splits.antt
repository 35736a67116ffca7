-- Block complexes split into their coordinates.
use Rattle.std.specs.Prelude.{◌≡◌, ◌==◌, ◌+◌, ◌<◌, ℕ, zero, suc, List, [], ◌∷◌, ◌++◌, if◌then◌else◌}
use Rattle.std.specs.Prelude.{slice_index, slice_index_or}
use Rattle.block_complexes.specs.BlockComplexes.{BlockComplex, AreBothLive, size_of}

-- m cells of size 1 and of degree k, numbered from n on
abbrev pub unit_cells : ℕ → ℕ → ℕ → List (ℕ × ℕ × ℕ)
unit_cells n k zero = []
unit_cells n k (suc m) = (n, k, 1) ∷ unit_cells (n + 1) k m

-- a cell of size 1 for each coordinate of these cells, in order of cell and place and with the degree of its cell,
-- numbered from n on
abbrev pub coordinate_cells : ℕ → List (ℕ × ℕ × ℕ) → List (ℕ × ℕ × ℕ)
coordinate_cells n [] = []
coordinate_cells n (l ∷ ls) = unit_cells n l.1 l.2 ++ coordinate_cells (n + l.2) ls

-- how many coordinates the cells before a cell have: from 0 on, the number of its first coordinate
abbrev pub first_coordinate : List (ℕ × ℕ × ℕ) → ℕ → ℕ
first_coordinate [] c = 0
first_coordinate (l ∷ ls) c = if l.0 == c then 0 else l.2 + first_coordinate ls c

-- the entry in a row and a column
abbrev pub entry_at : List (List ℕ) → ℕ → ℕ → ℕ
entry_at A row column = slice_index (slice_index_or A row []) column

-- w is v split into its coordinates: its cells are their numbers from 0 on, each of size 1 and of the degree of its
-- coordinate; and the matrix from coordinate p of the cell s to coordinate q of the cell t is the entry of v there
pub record IsSplit (v w : BlockComplex) : Type 0 where
  pub live : w.live ≡ coordinate_cells 0 v.live
  pub matrices : (s t p q : ℕ) → AreBothLive v.live s t → p < size_of v.live s → q < size_of v.live t
      → w.matrix (first_coordinate v.live s + p) (first_coordinate v.live t + q)
      ≡ (entry_at (v.matrix s t) q p ∷ []) ∷ []
