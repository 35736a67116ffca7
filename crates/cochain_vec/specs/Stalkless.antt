-- A cell without coordinates changes nothing.
use Rattle.std.specs.Prelude.{ℕ, ◌<◌, ◌↔◌, List, [], ◌∷◌, filter, not, ◌==◌, All}
use Rattle.dense_blocks.specs.Field.{Ops}
use Rattle.cochain_vec.specs.declared.cell.Cell.{Cell}
use Rattle.cochain_vec.specs.Complexes.{CellularComplex}
use Rattle.cochain_vec.specs.Cohomology.{IsBasis}

-- each cell has a greater number than those before it
abbrev pub HasRisingCells : List Cell → Type 0
HasRisingCells [] = Unit {0}
HasRisingCells (c ∷ cs) = All (λ later. c.cell < later.cell) cs × HasRisingCells cs

-- the same complex without the cells that have no coordinates
abbrev pub without_empty : CellularComplex → CellularComplex
without_empty F = record { cells = filter (λ c. not (c.size == 0)) F.cells; arrows = F.arrows }

-- leaving out the cells without coordinates leaves the bases of cohomology as they are
abbrev pub EmptyCellsChangeNothing : Type 0
EmptyCellsChangeNothing = (K : Ops) (F : CellularComplex) → HasRisingCells F.cells
    → (k : ℕ) (B : List (List ℕ)) → IsBasis K F k B ↔ IsBasis K (without_empty F) k B
