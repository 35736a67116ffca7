-- Cells with coordinates, and matrices from cell to cell: a cellular sheaf, or a block complex.
use Rattle.std.specs.Prelude.{ℕ, suc, ◌+◌, List, [], ◌∷◌, take, drop, filter, ◌==◌, if◌then◌else◌}
use Rattle.std.specs.List.{flat_map}
use Rattle.cochain_vec.specs.declared.cell.Cell.{Cell}
use Rattle.dense_blocks.specs.Field.{Ops}
use Rattle.dense_blocks.specs.Vectors.{IsVector, zeros, plus}
use Rattle.dense_blocks.specs.Matrices.{image_of}

-- a matrix from the coordinates of one cell to those of another (for a sheaf, the sign of a face times its restriction)
pub record Arrow : Type 0 where
  pub from : ℕ
  pub to : ℕ
  pub matrix : List (List ℕ)

-- the cells in rising order, and the matrices, in any order
pub record CellularComplex : Type 0 where
  pub cells : List Cell
  pub arrows : List Arrow

-- the cells of degree k, in order
abbrev pub cells_of : CellularComplex → ℕ → List Cell
cells_of F k = filter (λ c. c.degree == k) F.cells

-- how many coordinates cells have together
abbrev pub total_size : List Cell → ℕ
total_size [] = 0
total_size (c ∷ cs) = c.size + total_size cs

-- how many coordinates a cochain of degree k has
abbrev pub coordinates : CellularComplex → ℕ → ℕ
coordinates F k = total_size (cells_of F k)

-- the coordinates of z at the cell s, where z lists those of the cells in order
abbrev pub value_at : List Cell → List ℕ → ℕ → List ℕ
value_at [] z s = []
value_at (c ∷ cs) z s = if c.cell == s then take c.size z else value_at cs (drop c.size z) s

-- a cochain of degree k: the coordinates of the k-cells, in order of cells
abbrev pub IsCochain : Ops → CellularComplex → ℕ → List ℕ → Type 0
IsCochain K F k z = IsVector K (coordinates F k) z

-- the sum, over the matrices into the cell t of n coordinates, of the matrix times the value at where it comes from
abbrev pub sum_into : Ops → List Arrow → (ℕ → List ℕ) → ℕ → ℕ → List ℕ
sum_into K [] value n t = zeros n
sum_into K (a ∷ others) value n t =
    if a.to == t then plus K (image_of K a.matrix (value a.from)) (sum_into K others value n t)
    else sum_into K others value n t

-- the coboundary of a cochain of degree k: at each cell t of degree k + 1 the sum over the matrices into t
abbrev pub coboundary : Ops → CellularComplex → ℕ → List ℕ → List ℕ
coboundary K F k z = flat_map (λ t. sum_into K F.arrows (value_at (cells_of F k) z) t.size t.cell) (cells_of F (suc k))
