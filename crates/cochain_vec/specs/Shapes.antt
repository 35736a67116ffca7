-- The shapes of arrows.
use Rattle.std.specs.Prelude.{◌≡◌, length, All}
use Rattle.cochain_vec.specs.Complexes.{CellularComplex}

-- each matrix into a cell has a row for each coordinate of the cell
abbrev pub RowsFit : CellularComplex → Type 0
RowsFit F = All (λ t. All (λ a. a.to ≡ t.cell → length a.matrix ≡ t.size) F.arrows) F.cells
