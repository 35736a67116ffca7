-- Arithmetic modulo a number, without a word on inverses.
use Rattle.std.specs.Prelude.{◌≡◌, ℕ, ◌+◌, ◌-◌, ◌*◌, ◌%◌, ◌<◌, List, [], ◌∷◌, map, take, drop}
use Rattle.std.specs.List.{range_with_len}
use Rattle.dense_blocks.specs.Field.{Ops}
use Rattle.dense_blocks.specs.Vectors.{plus, multiple}
use Rattle.field_table.specs.Modular.{inverse}

-- the inverses of 1, 2, .. up to q - 1
unfoldable pub inverses : ℕ → List ℕ
inverses q = map (inverse q) (range_with_len 1 (q - 1))

-- on the numbers below q, sums, negatives and products are those of whole numbers modulo q
pub record IsModular (q : ℕ) (K : Ops) : Type 0 where
  pub sum_is : (a b : ℕ) → a < q → b < q → K.add a b ≡ (a + b) % q
  pub negative_is : (a : ℕ) → a < q → K.neg a ≡ (q - a) % q
  pub product_is : (a b : ℕ) → a < q → b < q → K.mul a b ≡ (a * b) % q

-- the sum of the products of coordinates, without a remainder
abbrev pub whole_dot : List ℕ → List ℕ → ℕ
whole_dot [] v = 0
whole_dot (a ∷ u) [] = 0
whole_dot (a ∷ u) (b ∷ v) = a * b + whole_dot u v

-- u plus the multiples, by the coefficients, of rows of n entries that stand one after another, from the first on
abbrev pub plus_rows : Ops → ℕ → List ℕ → List ℕ → List ℕ → List ℕ
plus_rows K n u [] rows = u
plus_rows K n u (c ∷ cs) rows = plus_rows K n (plus K u (multiple K c (take n rows))) cs (drop n rows)
