-- Coordinates put one after another, and the entries that have been put.
use Rattle.std.specs.Prelude.{◌≡◌, ◌+◌, ◌<◌, ℕ, zero, suc, Bool, true, List, [], ◌∷◌, Some}
use Rattle.std.specs.Prelude.{if◌then◌else◌}
use Rattle.rising_lists.specs.Rising.{has, entry}
use Rattle.block_complexes.specs.BlockComplexes.{AreBothLive, cells, live_size, size_of}
use Rattle.block_sparse.specs.StoredBlocks.{StoredBlocks, block_at, matrix}
use Rattle.block_sparse.specs.Grids.{as_block}
use Rattle.scalar_finish.specs.declared.coordinates.Numbers.{Numbers}
use Rattle.scalar_finish.specs.Splits.{first_coordinate, entry_at}

-- m coordinates of size 1, numbered from n on
abbrev pub units_from : ℕ → ℕ → List (ℕ × ℕ)
units_from n zero = []
units_from n (suc m) = (n, 1) ∷ units_from (n + 1) m

-- for each cell the number of its first coordinate, where the first cell's is n
abbrev pub first_coordinates : ℕ → List (ℕ × ℕ × ℕ) → List ℕ
first_coordinates n [] = []
first_coordinates n (l ∷ ls) = n ∷ first_coordinates (n + l.2) ls

-- the number of the first coordinate of each cell, and all coordinates
pub record AreNumbers (live : List (ℕ × ℕ × ℕ)) (numbers : Numbers) : Type 0 where
  pub firsts : (s : ℕ) → has s (cells live) ≡ true → entry numbers.firsts s ≡ Some (first_coordinate live s)
  pub units : numbers.units.items ≡ units_from 0 (live_size live)

-- the entries of v from some cells to some have been put, each between its coordinates; what stood elsewhere has stayed
abbrev pub HavePut : StoredBlocks → (ℕ → ℕ → Bool) → (old new : StoredBlocks) → Type 0
HavePut v put old new = (s t p q : ℕ) → AreBothLive v.live s t → p < size_of v.live s → q < size_of v.live t
    → let i = first_coordinate v.live s + p in let j = first_coordinate v.live t + q in
    block_at new i j
    ≡ (if put s t then as_block ((entry_at (matrix v s t) q p ∷ []) ∷ []) else block_at old i j)
