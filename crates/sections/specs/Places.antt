-- Where the value of a cochain of degree 0 stands.
use Rattle.std.specs.Prelude.{◌≡◌, ◌+◌, ◌≤◌, ℕ, List, take, drop}
use Rattle.cochain_vec.specs.Complexes.{total_size, value_at}
use Rattle.block_complexes.specs.BlockComplexes.{size_of}
use Rattle.block_complexes.specs.Cochains.{of_degree}

-- the coordinates of a cochain of degree 0 at the cell s begin at this place, if the cell is live
pub record BeginAt (live : List (ℕ × ℕ × ℕ)) (s start : ℕ) : Type 0 where
  pub value : (z : List ℕ) → value_at (of_degree 0 live) z s ≡ take (size_of live s) (drop start z)
  pub within : start + size_of live s ≤ total_size (of_degree 0 live)
