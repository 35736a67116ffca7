-- A block complex as cells with a matrix from each to each, and so its cochains and its coboundary.
use Rattle.std.specs.Prelude.{◌==◌, ℕ, List, map, filter}
use Rattle.std.specs.List.{flat_map}
use Rattle.cochain_vec.specs.declared.cell.Cell.{Cell}
use Rattle.cochain_vec.specs.Complexes.{CellularComplex}
use Rattle.block_complexes.specs.BlockComplexes.{BlockComplex, cells}

abbrev pub cell_of : ℕ × ℕ × ℕ → Cell
cell_of l = record { cell = l.0; degree = l.1; size = l.2 }

-- the live cells, and the matrix from each live cell s to each live cell t:
-- the coboundary of z at t is the sum over s of the matrix from s to t times z at s
abbrev pub complex_of : BlockComplex → CellularComplex
complex_of v = record {
  cells = map cell_of v.live;
  arrows = flat_map (λ t. map (λ s. record { from = s; to = t; matrix = v.matrix s t }) (cells v.live)) (cells v.live);
}

-- the live cells of degree k, in order
abbrev pub of_degree : ℕ → List (ℕ × ℕ × ℕ) → List Cell
of_degree k live = filter (λ c. c.degree == k) (map cell_of live)
