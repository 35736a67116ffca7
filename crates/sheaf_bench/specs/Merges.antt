-- Cells between which a joined matrix may be put.
use Rattle.std.specs.Prelude.{◌≡◌, ◌+◌, ℕ, true, List}
use Rattle.rising_lists.specs.Rising.{has, keys}
use Rattle.block_complexes.specs.BlockComplexes.{degree_of}
use Rattle.block_sparse.specs.Grids.{AreSized}

-- the cells are live with their sizes, and those below are one degree above those on the left
pub record MayJoin (live : List (ℕ × ℕ × ℕ)) (left below : List (ℕ × ℕ)) : Type 0 where
  pub left_sized : AreSized live left
  pub below_sized : AreSized live below
  pub degrees : (s t : ℕ) → has s (keys left) ≡ true → has t (keys below) ≡ true → degree_of live t ≡ degree_of live s
      + 1
