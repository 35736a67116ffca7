-- The sum over all cells between two, at a vector.
use Rattle.std.proofs.Common.{◌≡◌, ℕ, true, List, sym, ap, ◌∙◌}
use Rattle.dense_blocks.specs.Field.{Ops}
use Rattle.dense_blocks.specs.FieldLaws.{IsField}
use Rattle.dense_blocks.specs.Vectors.{zeros}
use Rattle.dense_blocks.specs.Matrices.{image_of, product}
use Rattle.dense_blocks.specs.MatrixFacts.{zero_matrix}
use Rattle.dense_blocks.proofs.Shapes.{Vector, Matrix}
use Rattle.dense_blocks.proofs.MatrixLaws.{product-matrix, product-image_of, zero_matrix-matrix, zero_matrix-image_of}
use Rattle.dense_blocks.proofs.MatrixLaws.{matrix-ext}
use Rattle.cochain_vec.proofs.PathLaws.{sum_over}
use Rattle.rising_lists.specs.Rising.{has}
use Rattle.block_complexes.specs.Differentials.{matrix_sum_over}
use Rattle.block_complexes.proofs.Sums.{sum_over-equal, matrix_sum_over-matrix, matrix_sum_over-image_of}

-- a matrix from each listed cell to each
module _ (K : Ops) (F : IsField K) (size : ℕ → ℕ) (M : ℕ → ℕ → List (List ℕ)) (ks : List ℕ)
    (shape : (s t : ℕ) → has s ks ≡ true → has t ks ≡ true → Matrix K (size t) (size s) (M s t))
    (s u : ℕ) (hs : has s ks ≡ true) (hu : has u ks ≡ true) where
  -- the sum over the cells t of M(t, u) M(s, t), and what it makes of a vector
  abbrev pub between : List (List ℕ)
  between = matrix_sum_over K (size u) (size s) (λ t. product K (size s) (M t u) (M s t)) ks

  abbrev pub through : List ℕ → List ℕ
  through z = sum_over K (size u) (λ t. image_of K (M t u) (image_of K (M s t) z)) ks

  term-matrix : (t : ℕ) → has t ks ≡ true → Matrix K (size u) (size s) (product K (size s) (M t u) (M s t))
  term-matrix t h = product-matrix K F (size u) (size t) (size s) (M t u) (M s t) (shape t u h hu) (shape s t hs h)

  between-image_of : (z : List ℕ) → image_of K between z ≡ through z
  between-image_of z =
      matrix_sum_over-image_of K F (size u) (size s) (λ t. product K (size s) (M t u) (M s t)) z ks term-matrix
      ∙ sum_over-equal K F (size u) (λ t. image_of K (product K (size s) (M t u) (M s t)) z)
      (λ t. image_of K (M t u) (image_of K (M s t) z)) ks
      (λ t h. product-image_of K F (size t) (size s) (M t u) (M s t) z (shape s t hs h))

  -- the matrix is zero where it makes zero of each vector
  pub between-zero : between ≡ zero_matrix (size u) (size s) → (z : List ℕ) → through z ≡ zeros (size u)
  between-zero e z = sym (between-image_of z) ∙ ap (λ A. image_of K A z) e ∙ zero_matrix-image_of K F (size u) (size s)
      z

  pub zero-between : ((z : List ℕ) → Vector K (size s) z → through z ≡ zeros (size u))
      → between ≡ zero_matrix (size u) (size s)
  zero-between e =
      matrix-ext K F (size u) (size s) between (zero_matrix (size u) (size s))
      (matrix_sum_over-matrix K F (size u) (size s) (λ t. product K (size s) (M t u) (M s t)) ks term-matrix)
      (zero_matrix-matrix K F (size u) (size s))
      (λ z h. between-image_of z ∙ e z h ∙ sym (zero_matrix-image_of K F (size u) (size s) z))
