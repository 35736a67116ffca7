-- The removal of a pair of cells from a block complex.
use Rattle.std.specs.Prelude.{◌≡◌, ◌==◌, ◌&&◌, ◌||◌, ℕ, Bool, List, filter, not, if◌then◌else◌}
use Rattle.dense_blocks.specs.Field.{Ops}
use Rattle.dense_blocks.specs.Matrices.{product}
use Rattle.dense_blocks.specs.MatrixFacts.{matrix_negative, matrix_sum, IsInverse}
use Rattle.block_complexes.specs.BlockComplexes.{BlockComplex, AreBothLive, AreConsecutive, degree_of, size_of}

-- M(s, t) - M(x, t) a M(s, y), where M(s, t) is the matrix from s to t
abbrev pub corner : Ops → BlockComplex → ℕ → ℕ → List (List ℕ) → ℕ → ℕ → List (List ℕ)
corner K v x y a s t =
    let n = size_of v.live s in
    matrix_sum K (v.matrix s t) (matrix_negative K (product K n (v.matrix x t) (product K n a (v.matrix s y))))

-- s has the degree of x, and t that of y
abbrev pub is_corner : List (ℕ × ℕ × ℕ) → ℕ → ℕ → ℕ → ℕ → Bool
is_corner live x y s t = degree_of live s == degree_of live x && degree_of live t == degree_of live y

-- the live cells without x and y
abbrev pub live_without : List (ℕ × ℕ × ℕ) → ℕ → ℕ → List (ℕ × ℕ × ℕ)
live_without live x y = filter (λ l. not (l.0 == x || l.0 == y)) live

-- w is what is left of v without the cells x and y, where a is the inverse of the matrix from x to y: between
-- cells that are left, a corner M(s, t) becomes M(s, t) - M(x, t) a M(s, y), and each other matrix stays
pub record IsRemoval (K : Ops) (v : BlockComplex) (x y : ℕ) (a : List (List ℕ)) (w : BlockComplex) : Type 0 where
  pub pair : AreConsecutive v.live x y
  pub square : size_of v.live y ≡ size_of v.live x
  pub inverse : IsInverse K (size_of v.live x) (v.matrix x y) a
  pub live : w.live ≡ live_without v.live x y
  pub matrices : (s t : ℕ) → AreBothLive w.live s t
      → w.matrix s t ≡ (if is_corner v.live x y s t then corner K v x y a s t else v.matrix s t)
