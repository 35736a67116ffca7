-- Global sections with a given value at a cell, and what stands against them.
use Rattle.std.specs.Prelude.{◌≡◌, ℕ, List, length, map}
use Rattle.dense_blocks.specs.Field.{Ops}
use Rattle.dense_blocks.specs.Vectors.{IsVector, dot, combination}
use Rattle.dense_blocks.specs.Solutions.{Combines, Separates}
use Rattle.cochain_vec.specs.Complexes.{CellularComplex, cells_of, coordinates, value_at}
use Rattle.cochain_vec.specs.Cohomology.{IsCocycle}

-- z is a global section, a cocycle of degree 0, and v is its value at the cell s
pub record IsSectionWith (K : Ops) (C : CellularComplex) (s : ℕ) (v z : List ℕ) : Type 0 where
  pub cocycle : IsCocycle K C 0 z
  pub value : value_at (cells_of C 0) z s ≡ v

-- the functional p is 0 on the value at s of each global section, and 1 on v
pub record IsObstruction (K : Ops) (C : CellularComplex) (s : ℕ) (v p : List ℕ) : Type 0 where
  pub functional : IsVector K (length v) p
  pub zero : (z : List ℕ) → IsCocycle K C 0 z → dot K p (value_at (cells_of C 0) z s) ≡ 0
  pub one : dot K p v ≡ 1

-- the values at s of cochains of degree 0
abbrev pub section_values : CellularComplex → ℕ → List (List ℕ) → List (List ℕ)
section_values C s vectors = map (λ z. value_at (cells_of C 0) z s) vectors

-- z is the combination of the vectors by which their values at s give v: the leading one
pub record IsLeadingSection (K : Ops) (C : CellularComplex) (s : ℕ) (v : List ℕ) (vectors : List (List ℕ))
    (z : List ℕ) : Type 0 where
  pub coefficients : List ℕ
  pub combines : Combines K (section_values C s vectors) v coefficients
  pub sum : z ≡ combination K (coordinates C 0) coefficients vectors

-- the functional that separates v from the values of the vectors at s: the leading one
abbrev pub IsLeadingObstruction : Ops → CellularComplex → ℕ → List ℕ → List (List ℕ) → List ℕ → Type 0
IsLeadingObstruction K C s v vectors functional = Separates K (section_values C s vectors) v functional
