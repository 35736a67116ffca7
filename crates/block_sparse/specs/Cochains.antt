-- Where the coordinates of the live cells begin in a cochain.
use Rattle.std.specs.Prelude.{◌≡◌, ◌<◌, ℕ, List, length, take, slice_index}
use Rattle.cochain_vec.specs.Complexes.{total_size}
use Rattle.block_complexes.specs.Cochains.{of_degree}

-- for each live cell how many coordinates the cells of degree k before it have
pub record AreStarts (k : ℕ) (live : List (ℕ × ℕ × ℕ)) (starts : List ℕ) : Type 0 where
  pub count : length starts ≡ length live
  pub each : (i : ℕ) → i < length live → slice_index starts i ≡ total_size (of_degree k (take i live))
