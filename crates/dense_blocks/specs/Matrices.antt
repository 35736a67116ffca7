-- Matrices over a field, as lists of rows.
use Rattle.std.specs.Prelude.{ℕ, zero, suc, List, [], ◌∷◌, map, take, drop}
use Rattle.dense_blocks.specs.Field.{Ops}
use Rattle.dense_blocks.specs.Vectors.{dot, combination}

-- a list of entries cut into so many rows of n
abbrev pub cut : ℕ → ℕ → List ℕ → List (List ℕ)
cut zero n entries = []
cut (suc m) n entries = take n entries ∷ cut m n (drop n entries)

-- A v: the product of each row with v
abbrev pub image_of : Ops → List (List ℕ) → List ℕ → List ℕ
image_of K A v = map (λ row. dot K row v) A

-- A B, for a B of n columns: its rows are the combinations of the rows of B by the rows of A
abbrev pub product : Ops → ℕ → List (List ℕ) → List (List ℕ) → List (List ℕ)
product K n A B = map (λ row. combination K n row B) A
