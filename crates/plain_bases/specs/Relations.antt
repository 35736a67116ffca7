-- Linear relations among vectors: the cocycles of a map that is given by its columns.
use Rattle.std.specs.Prelude.{◌≡◌, ℕ, ◌+◌, List, ◌++◌, length, take, All}
use Rattle.dense_blocks.specs.Field.{Ops}
use Rattle.dense_blocks.specs.Vectors.{IsVector, zeros, combination}
use Rattle.dense_blocks.specs.Spans.{IsCombination}

-- coefficients by which the columns, of n coordinates, combine to zero
pub record IsRelation (K : Ops) (n : ℕ) (columns : List (List ℕ)) (z : List ℕ) : Type 0 where
  pub coefficients : IsVector K (length columns) z
  pub zero : combination K n z columns ≡ zeros n

-- relations of which every relation is a combination
pub record SpansRelations (K : Ops) (n : ℕ) (columns zs : List (List ℕ)) : Type 0 where
  pub relations : All (IsRelation K n columns) zs
  pub all : (z : List ℕ) → IsRelation K n columns z → IsCombination K (length columns) zs z

-- the same for the relations that use only the first j columns
pub record SpansRelationsBelow (K : Ops) (n : ℕ) (columns : List (List ℕ)) (j : ℕ) (zs : List (List ℕ)) : Type 0 where
  pub relations : All (IsRelation K n columns) zs
  pub all : (u : List ℕ) (more : ℕ) → j + more ≡ length columns → IsVector K j u → combination K n u (take j columns)
      ≡ zeros n
      → IsCombination K (length columns) zs (u ++ zeros more)
