-- Vectors over a field, as lists of scalars, and their combinations.
use Rattle.std.specs.Prelude.{◌≡◌, ℕ, zero, suc, ◌<◌, List, [], ◌∷◌, length, map, All}
use Rattle.dense_blocks.specs.Field.{Ops}

-- each number is a scalar
abbrev pub AllScalars : Ops → List ℕ → Type 0
AllScalars K v = All (λ a. a < K.order) v

-- n scalars
pub record IsVector (K : Ops) (n : ℕ) (v : List ℕ) : Type 0 where
  pub size : length v ≡ n
  pub scalars : AllScalars K v

-- the zero vector of n coordinates
abbrev pub zeros : ℕ → List ℕ
zeros zero = []
zeros (suc n) = 0 ∷ zeros n

-- u + v, coordinate by coordinate
abbrev pub plus : Ops → List ℕ → List ℕ → List ℕ
plus K [] v = []
plus K (a ∷ u) [] = []
plus K (a ∷ u) (b ∷ v) = K.add a b ∷ plus K u v

-- k v
abbrev pub multiple : Ops → ℕ → List ℕ → List ℕ
multiple K k v = map (K.mul k) v

-- the sum of the products of coordinates: the functional u at the vector v
abbrev pub dot : Ops → List ℕ → List ℕ → ℕ
dot K [] v = 0
dot K (a ∷ u) [] = 0
dot K (a ∷ u) (b ∷ v) = K.add (K.mul a b) (dot K u v)

-- the linear combination of vectors of n coordinates by the coefficients
abbrev pub combination : Ops → ℕ → List ℕ → List (List ℕ) → List ℕ
combination K n [] vs = zeros n
combination K n (c ∷ cs) [] = zeros n
combination K n (c ∷ cs) (v ∷ vs) = plus K (multiple K c v) (combination K n cs vs)
