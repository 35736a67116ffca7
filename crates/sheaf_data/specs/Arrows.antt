-- The cells and the arrows of the whole cochain complex of a sheaf.
use Rattle.std.specs.Prelude.{ℕ, List, map}
use Rattle.std.specs.List.{zip, enumerate_from}
use Rattle.cell_complex.specs.declared.face.Face.{Face}
use Rattle.cochain_vec.specs.declared.cell.Cell.{Cell}
use Rattle.cochain_vec.specs.Complexes.{Arrow}
use Rattle.dense_blocks.specs.Field.{Ops}
use Rattle.dense_blocks.specs.Blocks.{matrix_of}
use Rattle.dense_blocks.specs.declared.block.Block.{Block}
use Rattle.sheaf_data.specs.Betti.{signed_matrix}

-- cells of these dimensions and stalks, numbered from n on: each has its dimension as its degree, and its stalk as its
-- size
abbrev pub numbered_cells : ℕ → List ℕ → List ℕ → List Cell
numbered_cells n dims stalks =
    map (λ (p : ℕ × (ℕ × ℕ)). record { cell = p.0; degree = p.1.0; size = p.1.1 }) (enumerate_from n (zip dims stalks))

-- a face with its block: the sign times the matrix of the block, from the coordinates of s to those of t
abbrev pub arrow_of_face : Ops → Face → Block → Arrow
arrow_of_face K f b = record { from = f.s; to = f.t; matrix = signed_matrix K f.sign (matrix_of b) }

-- an arrow for each face, in order
abbrev pub arrows_of : Ops → List Face → List Block → List Arrow
arrows_of K faces blocks = map (λ (p : Face × Block). arrow_of_face K p.0 p.1) (zip faces blocks)
