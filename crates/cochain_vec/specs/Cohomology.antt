-- The cohomology of cells with matrices: cocycles modulo coboundaries.
use Rattle.std.specs.Prelude.{◌≡◌, ℕ, zero, suc, List, length, slice_index, All, EachIndex}
use Rattle.dense_blocks.specs.Field.{Ops}
use Rattle.dense_blocks.specs.Vectors.{IsVector, zeros, plus, combination}
use Rattle.cochain_vec.specs.Complexes.{CellularComplex, coordinates, IsCochain, coboundary}

-- a cochain whose coboundary is zero
pub record IsCocycle (K : Ops) (F : CellularComplex) (k : ℕ) (z : List ℕ) : Type 0 where
  pub cochain : IsCochain K F k z
  pub closed : coboundary K F k z ≡ zeros (coordinates F (suc k))

-- the coboundary of a cochain of the degree below; in degree 0 only the zero cochain is one
abbrev pub IsCoboundary : Ops → CellularComplex → ℕ → List ℕ → Type 0
IsCoboundary K F zero z = z ≡ zeros (coordinates F 0)
IsCoboundary K F (suc k) z = (u : List ℕ) × IsCochain K F k u × (z ≡ coboundary K F k u)

-- z is a combination of B plus a coboundary
pub record IsRepresented (K : Ops) (F : CellularComplex) (k : ℕ) (B : List (List ℕ)) (z : List ℕ) : Type 0 where
  pub coefficients : List ℕ
  pub one_each : IsVector K (length B) coefficients
  pub rest : List ℕ
  pub is_coboundary : IsCoboundary K F k rest
  pub sum : z ≡ plus K (combination K (coordinates F k) coefficients B) rest

-- B is a basis of the cohomology of degree k: its members are cocycles, each cocycle is a combination of B plus a
-- coboundary, and a combination of B that is a coboundary has only zero coefficients
pub record IsBasis (K : Ops) (F : CellularComplex) (k : ℕ) (B : List (List ℕ)) : Type 0 where
  pub cocycles : All (IsCocycle K F k) B
  pub spans : (z : List ℕ) → IsCocycle K F k z → IsRepresented K F k B z
  pub independent : (c : List ℕ) → IsVector K (length B) c → IsCoboundary K F k (combination K (coordinates F k) c B)
      → c ≡ zeros (length B)

-- the cohomology of degree k has dimension n: some basis has n members
abbrev pub HasDimension : Ops → CellularComplex → ℕ → ℕ → Type 0
HasDimension K F k n = (B : List (List ℕ)) × (length B ≡ n) × IsBasis K F k B

-- one number for each of so many degrees, from 0 on: the dimension of the cohomology of that degree
pub record AreDimensions (K : Ops) (F : CellularComplex) (degrees : ℕ) (numbers : List ℕ) : Type 0 where
  pub one_each : length numbers ≡ degrees
  pub dimensions : EachIndex numbers (λ k. HasDimension K F k (slice_index numbers k))
