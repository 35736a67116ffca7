-- The matrices of a composite with one removal more, and the row and column operations that make them.
use Rattle.std.specs.Prelude.{◌==◌, ℕ, suc, List, [], ◌∷◌, if◌then◌else◌, map, take, drop}
use Rattle.std.specs.List.{flat_map}
use Rattle.dense_blocks.specs.Field.{Ops}
use Rattle.dense_blocks.specs.Vectors.{plus, combination}
use Rattle.dense_blocks.specs.MatrixFacts.{negative, matrix_sum, matrix_negative}
use Rattle.dense_blocks.specs.Matrices.{image_of, product}
use Rattle.cochain_vec.specs.declared.cell.Cell.{Cell}
use Rattle.cochain_vec.specs.Complexes.{cells_of}
use Rattle.block_complexes.specs.BlockComplexes.{BlockComplex}
use Rattle.block_complexes.specs.Cochains.{complex_of}
use Rattle.equivalence_laws.specs.Equivalences.{GradedMatrix, AreMatricesOf}
use Rattle.equivalence_laws.specs.RemovalMaps.{Removal, cochain_value, removal_pi, removal_iota, removal_h}

-- what pi, iota and h, from v to u, become by a removal from u: pi' z is pi of the removal at pi z, iota' z is iota at
-- iota of the removal at z, and h' z is h z plus iota at h of the removal at pi z
abbrev pub AreNextMatrices : Ops → (v u : BlockComplex) → Removal → (pi iota h pi' iota' h' : GradedMatrix) → Type 0
AreNextMatrices K v u r pi iota h pi' iota' h' = AreMatricesOf K (complex_of v) (complex_of r.rest)
    (λ k z. removal_pi K u r k (image_of K (pi k) z))
    (λ k z. image_of K (iota k) (removal_iota K u r k z))
    (λ k z. plus K (image_of K (h k) z) (image_of K (iota k) (removal_h K u r k (image_of K (pi (suc k)) z))))
    pi' iota' h'

-- the rows at the cell c of a matrix with a row for each coordinate of these cells
abbrev pub cell_rows : List Cell → List (List ℕ) → ℕ → List (List ℕ)
cell_rows [] A c = []
cell_rows (t ∷ ts) A c = if t.cell == c then take t.size A else cell_rows ts (drop t.size A) c

-- the same of the cells of degree k
abbrev pub rows_at : BlockComplex → ℕ → List (List ℕ) → ℕ → List (List ℕ)
rows_at u k A c = cell_rows (cells_of (complex_of u) k) A c

-- the columns at the cell c of a matrix with a column for each coordinate of degree k
abbrev pub columns_at : BlockComplex → ℕ → List (List ℕ) → ℕ → List (List ℕ)
columns_at u k A c = map (λ row. cochain_value u k row c) A

-- pi of degree k, with n columns: the rows at x and y go; at each cell t that is left, M(x, t) a times the rows at y
-- are taken away
abbrev pub next_pi : Ops → BlockComplex → Removal → ℕ → ℕ → List (List ℕ) → List (List ℕ)
next_pi K u r k n A = flat_map
    (λ t. matrix_sum K (rows_at u k A t.cell)
    (matrix_negative K (product K n (u.matrix r.x t.cell) (product K n r.inverse (rows_at u k A r.y)))))
    (cells_of (complex_of r.rest) k)

-- iota of degree k: the columns at x and y go; at each cell s that is left, the columns at x times a M(s, y) are taken
-- away
abbrev pub next_iota : Ops → BlockComplex → Removal → ℕ → List (List ℕ) → List (List ℕ)
next_iota K u r k A = map
    (λ row. flat_map
    (λ s. plus K (cochain_value u k row s.cell)
    (negative K (combination K s.size (cochain_value u k row r.x) (product K s.size r.inverse (u.matrix s.cell r.y)))))
    (cells_of (complex_of r.rest) k))
    A

-- h of degree k, with n columns: the columns of iota at x, times a, times the rows of pi of degree k + 1 at y, are
-- added
abbrev pub next_h : Ops → BlockComplex → Removal → ℕ → ℕ → (h iota pi : List (List ℕ)) → List (List ℕ)
next_h K u r k n h iota pi =
    matrix_sum K h (product K n (columns_at u k iota r.x) (product K n r.inverse (rows_at u (suc k) pi r.y)))
