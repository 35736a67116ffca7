-- What cells and matrices in memory stand for.
use Rattle.std.specs.Prelude.{◌≡◌, ◌≤◌, List, map, All}
use Rattle.dense_blocks.specs.Field.{Ops}
use Rattle.dense_blocks.specs.Vectors.{AllScalars}
use Rattle.dense_blocks.specs.Blocks.{matrix_of}
use Rattle.cochain_vec.specs.declared.cell.Cell.{Cell}
use Rattle.cochain_vec.specs.Complexes as complexes
use Rattle.cochain_vec.specs.Complexes.{CellularComplex, total_size}
use Rattle.plain_bases.specs.declared.complex.Arrow.{Arrow}
use Rattle.plain_bases.specs.declared.complex.Complex.{Complex}

-- a block as the matrix of an arrow
abbrev pub arrow_of : Arrow → complexes.Arrow
arrow_of a = record { from = a.from; to = a.to; matrix = matrix_of a.block }

abbrev pub plain_complex_of : Complex → CellularComplex
plain_complex_of c = record { cells = c.cells; arrows = map arrow_of c.arrows }

-- the block goes between these cells, where it goes between cells of these numbers
pub record FitsCells (K : Ops) (cells : List Cell) (a : Arrow) : Type 0 where
  pub rows : All (λ t. a.to ≡ t.cell → a.block.rows ≡ t.size) cells
  pub columns : All (λ s. a.from ≡ s.cell → a.block.cols ≡ s.size) cells
  pub scalars : AllScalars K a.block.entries

-- the blocks fit their cells, which have at most 4,096 coordinates together
pub record IsComplexOver (K : Ops) (c : Complex) : Type 0 where
  pub few : total_size c.cells ≤ 4096
  pub fits : All (FitsCells K c.cells) c.arrows
