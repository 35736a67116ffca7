-- The coboundary over plain lists of cells: those of one degree, and those of the next.
use Rattle.std.specs.Prelude.{ℕ, List, map}
use Rattle.std.specs.List.{flat_map}
use Rattle.dense_blocks.specs.Field.{Ops}
use Rattle.dense_blocks.specs.MatrixFacts.{identity}
use Rattle.cochain_vec.specs.declared.cell.Cell.{Cell}
use Rattle.cochain_vec.specs.Complexes.{total_size, value_at, sum_into}
use Rattle.plain_bases.specs.declared.complex.Arrow.{Arrow}
use Rattle.plain_bases.specs.View.{arrow_of}

-- the part at the cell t of the coboundary of z, which has the coordinates of the source cells
abbrev pub part_at : Ops → List Arrow → List Cell → List ℕ → Cell → List ℕ
part_at K arrows source z t = sum_into K (map arrow_of arrows) (value_at source z) t.size t.cell

-- the coboundary of z
abbrev pub image : Ops → List Arrow → List Cell → List Cell → List ℕ → List ℕ
image K arrows source target z = flat_map (part_at K arrows source z) target

-- the coboundaries of the unit cochains
abbrev pub images : Ops → List Arrow → List Cell → List Cell → List (List ℕ)
images K arrows source target = map (image K arrows source target) (identity (total_size source))
