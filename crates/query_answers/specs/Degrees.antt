-- The cells of one degree, and lists of matrices of the coboundary.
use Rattle.std.specs.Prelude.{◌==◌, ℕ, suc, List, map, filter}
use Rattle.dense_blocks.specs.Field.{Ops}
use Rattle.dense_blocks.specs.LinearMaps.{IsMatrixOf}
use Rattle.dense_blocks.specs.declared.block.Block.{Block}
use Rattle.cochain_vec.specs.Complexes.{CellularComplex, coordinates, coboundary}
use Rattle.core_machine.specs.Replies.{AreGradedBlocks}
use Rattle.equivalence_laws.specs.Equivalences.{graded_matrix}

-- the live cells of degree k, in order, each with its size
abbrev pub sized_of_degree : ℕ → List (ℕ × ℕ × ℕ) → List (ℕ × ℕ)
sized_of_degree k live = map (λ l. (l.0, l.2)) (filter (λ l. l.1 == k) live)

-- a block for each of so many degrees: that of degree k has a row for each coordinate of C in degree k + 1, and a
-- column for each in degree k
abbrev pub HaveCoboundaryShapes : ℕ → CellularComplex → List Block → Type 0
HaveCoboundaryShapes degrees C blocks =
    AreGradedBlocks degrees (λ k. coordinates C (suc k)) (coordinates C) blocks

-- in each degree the matrix of the coboundary of C
abbrev pub AreCoboundaryMatrices : Ops → CellularComplex → List Block → Type 0
AreCoboundaryMatrices K C blocks = (k : ℕ) → IsMatrixOf K (coordinates C (suc k)) (coordinates C k)
    (coboundary K C k) (graded_matrix blocks k)
