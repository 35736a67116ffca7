-- Elimination: vectors reduced by pivots.
use Rattle.std.specs.Prelude.{◌≡◌, ◌≢◌, ℕ, ◌<◌, List, [], ◌∷◌, length, map, take, All, slice_index, slice_index_or}
use Rattle.dense_blocks.specs.Field.{Ops}
use Rattle.dense_blocks.specs.Vectors.{IsVector, zeros, plus, multiple, dot}
use Rattle.dense_blocks.specs.Solutions.{IsDependent}
use Rattle.dense_blocks.specs.declared.solution.Pivot.{Pivot}

-- a pivot that reduces vectors of n coordinates; its place is the first where its row is not 0
pub record IsPivot (K : Ops) (n : ℕ) (p : Pivot) : Type 0 where
  pub place : p.place < n
  pub row : IsVector K n p.row.items
  pub first : take p.place p.row.items ≡ zeros p.place
  pub not_zero : slice_index p.row.items p.place ≢ 0
  pub inverse : p.inverse < K.order
  pub inverse_is : p.inverse ≡ K.inv (slice_index p.row.items p.place)

-- the rows of some pivots
abbrev pub rows : List Pivot → List (List ℕ)
rows ps = map (λ p. p.row.items) ps

-- how many times its row a pivot takes off u
abbrev pub pivot_multiple : Ops → Pivot → List ℕ → ℕ
pivot_multiple K p u = K.mul (slice_index u p.place) p.inverse

-- u without that
abbrev pub pivot_remainder : Ops → Pivot → List ℕ → List ℕ
pivot_remainder K p u = plus K u (multiple K (K.neg (pivot_multiple K p u)) p.row.items)

-- what is left of u once each pivot in turn has taken its multiple off
unfoldable pub remainder : Ops → List Pivot → List ℕ → List ℕ
remainder K [] u = u
remainder K (p ∷ ps) u = remainder K ps (pivot_remainder K p u)

-- how many times its row each pivot takes off in turn
unfoldable pub parts : Ops → List Pivot → List ℕ → List ℕ
parts K [] u = []
parts K (p ∷ ps) u = pivot_multiple K p u ∷ parts K ps (pivot_remainder K p u)

-- the pivot is one of the vectors, reduced by the pivots before it
pub record ComesFrom (K : Ops) (vectors : List (List ℕ)) (before : List Pivot) (p : Pivot) : Type 0 where
  pub source : p.source < length vectors
  pub row_is : p.row.items ≡ remainder K before (slice_index_or vectors p.source [])
  pub parts_are : p.parts.items ≡ parts K before (slice_index_or vectors p.source [])

-- pivots that come from the vectors which earlier ones do not give, and reduce the first so many vectors to zero
pub record Eliminates (K : Ops) (n : ℕ) (vectors : List (List ℕ)) (count : ℕ) (ps : List Pivot) : Type 0 where
  pub fit : All (IsPivot K n) ps
  pub come_from : (k : ℕ) (d : Pivot) → k < length ps → ComesFrom K vectors (take k ps) (slice_index_or ps k d)
  pub not_earlier : (k : ℕ) (d : Pivot) → k < length ps → IsDependent K n vectors (slice_index_or ps k d).source → ⊥
  pub zero : (j : ℕ) → j < count → remainder K ps (slice_index_or vectors j []) ≡ zeros n

-- the functional p gives k times one coordinate of each vector once that is reduced; other coordinates it reads only at
-- places of pivots
pub record PullsBack (K : Ops) (n : ℕ) (ps : List Pivot) (place k : ℕ) (p : List ℕ) : Type 0 where
  pub functional : IsVector K n p
  pub gives : (u : List ℕ) → IsVector K n u → dot K p u ≡ K.mul k (slice_index (remainder K ps u) place)
  pub elsewhere : (i : ℕ) → i ≢ place → ((j : ℕ) (d : Pivot) → j < length ps → (slice_index_or ps j d).place ≢ i)
      → slice_index p i ≡ 0
