-- The three maps of one removal, by what they do at each cell.
use Rattle.std.specs.Prelude.{ℕ, suc, List, ◌==◌, if◌then◌else◌}
use Rattle.std.specs.List.{flat_map}
use Rattle.dense_blocks.specs.Field.{Ops}
use Rattle.dense_blocks.specs.Vectors.{zeros, plus}
use Rattle.dense_blocks.specs.MatrixFacts.{negative}
use Rattle.dense_blocks.specs.Matrices.{image_of}
use Rattle.cochain_vec.specs.Complexes.{cells_of, value_at, sum_into}
use Rattle.block_complexes.specs.BlockComplexes.{BlockComplex, size_of}
use Rattle.block_complexes.specs.Cochains.{complex_of}
use Rattle.removals.specs.Removals.{IsRemoval}
use Rattle.equivalence_laws.specs.Equivalences.{GradedMap}

-- the pair of cells, the inverse a of the matrix from x to y, and the block complex that is left
pub record Removal : Type 0 where
  pub x : ℕ
  pub y : ℕ
  pub inverse : List (List ℕ)
  pub rest : BlockComplex

-- it is a removal from v
abbrev pub IsRemovalFrom : Ops → BlockComplex → Removal → Type 0
IsRemovalFrom K v r = IsRemoval K v r.x r.y r.inverse r.rest

-- the value at the cell c of a cochain z of degree k
abbrev pub cochain_value : BlockComplex → ℕ → List ℕ → ℕ → List ℕ
cochain_value v k z c = value_at (cells_of (complex_of v) k) z c

-- pi forgets x and y: at each cell t that is left it has z(t) - M(x, t) a z(y)
abbrev pub removal_pi : Ops → BlockComplex → Removal → GradedMap
removal_pi K v r k z = flat_map
    (λ t. plus K (cochain_value v k z t.cell)
    (negative K (image_of K (v.matrix r.x t.cell) (image_of K r.inverse (cochain_value v k z r.y)))))
    (cells_of (complex_of r.rest) k)

-- iota has at x - a times the sum over s of M(s, y) z(s), at y zero, and at each cell that is left z itself
abbrev pub removal_iota : Ops → BlockComplex → Removal → GradedMap
removal_iota K v r k z = flat_map
    (λ t. if t.cell == r.x then negative K (image_of K r.inverse
    (sum_into K (complex_of v).arrows (cochain_value r.rest k z) (size_of v.live r.y) r.y))
    else if t.cell == r.y then zeros t.size else cochain_value r.rest k z t.cell)
    (cells_of (complex_of v) k)

-- h has at x a z(y), and zero elsewhere
abbrev pub removal_h : Ops → BlockComplex → Removal → GradedMap
removal_h K v r k z = flat_map
    (λ t. if t.cell == r.x then image_of K r.inverse (cochain_value v (suc k) z r.y) else zeros t.size)
    (cells_of (complex_of v) k)
