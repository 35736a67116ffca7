-- Cochains that are not closed, and the classes of those that are.
use Rattle.std.specs.Prelude.{◌≡◌, ◌<◌, ℕ, zero, suc, true, List, [], length, map, All}
use Rattle.dense_blocks.specs.Field.{Ops}
use Rattle.dense_blocks.specs.Vectors.{IsVector, zeros, plus, combination}
use Rattle.dense_blocks.specs.Matrices.{image_of}
use Rattle.rising_lists.specs.Rising.{has}
use Rattle.cochain_vec.specs.declared.cell.Cell.{Cell}
use Rattle.cochain_vec.specs.Complexes.{CellularComplex, cells_of, coordinates, value_at, IsCochain, coboundary}
use Rattle.cochain_vec.specs.Cohomology.{IsCocycle, IsBasis}
use Rattle.equivalence_laws.specs.Equivalences.{GradedMatrix}

-- the numbers of cells
abbrev pub numbers : List Cell → List ℕ
numbers cs = map (λ c. c.cell) cs

-- z, which lists the coordinates of the cells in order, is zero at the cell t
abbrev pub IsZeroAt : List Cell → List ℕ → ℕ → Type 0
IsZeroAt cs z t = All (λ a. a ≡ 0) (value_at cs z t)

-- t is the first of the cells at which it is not
pub record IsFirstNonzeroCell (cs : List Cell) (z : List ℕ) (t : ℕ) : Type 0 where
  pub cell : has t (numbers cs) ≡ true
  pub nonzero : IsZeroAt cs z t → ⊥
  pub zero_before : (s : ℕ) → has s (numbers cs) ≡ true → s < t → IsZeroAt cs z s

-- t is the first cell of degree k + 1 at which the coboundary of z, a cochain of degree k, is not zero
abbrev pub IsFirstOpen : Ops → CellularComplex → ℕ → List ℕ → ℕ → Type 0
IsFirstOpen K C k z t = IsFirstNonzeroCell (cells_of C (suc k)) (coboundary K C k z) t

-- the coboundary of u, which has degree k - 1; in degree 0, which has none below, the zero cochain
abbrev pub coboundary_below : Ops → CellularComplex → ℕ → List ℕ → List ℕ
coboundary_below K C zero u = zeros (coordinates C 0)
coboundary_below K C (suc k) u = coboundary K C k u

-- u is a cochain of degree k - 1; where there is none, it has no coordinates
abbrev pub IsCochainBelow : Ops → CellularComplex → ℕ → List ℕ → Type 0
IsCochainBelow K C zero u = u ≡ []
IsCochainBelow K C (suc k) u = IsCochain K C k u

-- h z, for z of degree k: a cochain of degree k - 1
abbrev pub homotopy_below : Ops → GradedMatrix → ℕ → List ℕ → List ℕ
homotopy_below K h zero z = []
homotopy_below K h (suc k) z = image_of K (h k) z

-- the vectors are a basis of the cohomology of degree k, and z is a cocycle: their combination by coords, plus the
-- coboundary of primitive
pub record IsClass (K : Ops) (C : CellularComplex) (k : ℕ) (z coords : List ℕ) (vectors : List (List ℕ))
    (primitive : List ℕ) : Type 0 where
  pub cocycle : IsCocycle K C k z
  pub basis : IsBasis K C k vectors
  pub one_each : IsVector K (length vectors) coords
  pub cochain : IsCochainBelow K C k primitive
  pub sum : z ≡ plus K (combination K (coordinates C k) coords vectors) (coboundary_below K C k primitive)
