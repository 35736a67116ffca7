-- Block complexes in which the coboundary of each coboundary is zero.
use Rattle.std.specs.Prelude.{◌≡◌, ℕ, List, [], ◌∷◌}
use Rattle.dense_blocks.specs.Field.{Ops}
use Rattle.dense_blocks.specs.Matrices.{product}
use Rattle.dense_blocks.specs.MatrixFacts.{zero_matrix, matrix_sum}
use Rattle.block_complexes.specs.BlockComplexes.{BlockComplex, AreBothLive, cells, size_of}

-- the sum over some cells of matrices of m rows and n columns
abbrev pub matrix_sum_over : Ops → ℕ → ℕ → (ℕ → List (List ℕ)) → List ℕ → List (List ℕ)
matrix_sum_over K m n A [] = zero_matrix m n
matrix_sum_over K m n A (t ∷ ts) = matrix_sum K (A t) (matrix_sum_over K m n A ts)

-- the sum over the live cells t of M(t, u) M(s, t), where M(s, t) is the matrix from s to t
abbrev pub twice : Ops → BlockComplex → ℕ → ℕ → List (List ℕ)
twice K v s u = matrix_sum_over K (size_of v.live u) (size_of v.live s)
    (λ t. product K (size_of v.live s) (v.matrix t u) (v.matrix s t)) (cells v.live)

-- that sum is zero for all live cells s and u (where u is not two degrees above s, each of its terms is)
abbrev pub IsDifferential : Ops → BlockComplex → Type 0
IsDifferential K v = (s u : ℕ) → AreBothLive v.live s u → twice K v s u ≡ zero_matrix (size_of v.live u)
    (size_of v.live s)
