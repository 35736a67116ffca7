-- The columns of a coboundary, and the columns of the coboundary into a degree.
use Rattle.std.specs.Prelude.{ℕ, zero, suc, List, [], map}
use Rattle.dense_blocks.specs.Field.{Ops}
use Rattle.dense_blocks.specs.MatrixFacts.{identity}
use Rattle.cochain_vec.specs.Complexes.{CellularComplex, coordinates, coboundary}

-- the coboundaries of the unit cochains of degree k
abbrev pub columns_from : Ops → CellularComplex → ℕ → List (List ℕ)
columns_from K C k = map (coboundary K C k) (identity (coordinates C k))

-- the coboundaries of the unit cochains of the degree below; none in degree 0
abbrev pub columns_into : Ops → CellularComplex → ℕ → List (List ℕ)
columns_into K C zero = []
columns_into K C (suc k) = columns_from K C k
