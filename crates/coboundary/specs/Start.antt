-- The start complex of a sheaf: the cells with a stalk, and the matrices of the faces.
use Rattle.std.specs.Prelude.{ℕ, List, Option, Some, None, map, filter, not, ◌==◌}
use Rattle.std.specs.Option.{option_map, option_and_then}
use Rattle.cell_complex.specs.Complexes.{CellComplex, sign}
use Rattle.dense_blocks.specs.Field.{Ops}
use Rattle.dense_blocks.specs.MatrixFacts.{zero_matrix}
use Rattle.dense_blocks.specs.Blocks.{matrix_of}
use Rattle.dense_blocks.specs.declared.block.Block.{Block}
use Rattle.cochain_vec.specs.declared.cell.Cell.{Cell}
use Rattle.square_check.specs.Squares.{restriction}
use Rattle.block_complexes.specs.BlockComplexes.{BlockComplex, size_of}
use Rattle.sheaf_data.specs.Betti.{signed_matrix}
use Rattle.sheaf_data.specs.Arrows.{numbered_cells}

-- the cells with a stalk that is not zero, each with its degree and its size
abbrev pub with_stalks : List Cell → List (ℕ × ℕ × ℕ)
with_stalks cs = map (λ (c : Cell). (c.cell, c.degree, c.size)) (filter (λ (c : Cell). not (c.size == 0)) cs)

-- the sign times the restriction from s to t, where s is a face of t
abbrev pub face_matrix : Ops → CellComplex → List Block → ℕ → ℕ → Option (List (List ℕ))
face_matrix K c blocks s t =
    option_and_then (λ g. option_map (λ b. signed_matrix K g (matrix_of b)) (restriction c blocks s t)) (sign c s t)

-- the matrix, or zeros of m rows and n columns where there is none
abbrev pub or_zeros : Option (List (List ℕ)) → ℕ → ℕ → List (List ℕ)
or_zeros None m n = zero_matrix m n
or_zeros (Some A) m n = A

-- the start complex of a sheaf: its live cells are the cells with a stalk; the matrix from s to t is the sign times the
-- restriction where s is a face of t, and every other matrix is zero
abbrev pub start_complex : Ops → CellComplex → List ℕ → List Block → BlockComplex
start_complex K c stalks blocks =
    let live = with_stalks (numbered_cells 0 c.dims stalks) in
    record { live = live; matrix = λ s t. or_zeros (face_matrix K c blocks s t) (size_of live t) (size_of live s) }
