-- Linear equations: a combination that gives a vector, or a functional that tells it apart.
use Rattle.std.specs.Prelude.{◌≡◌, ◌≢◌, ℕ, ◌<◌, List, [], Vec, length, map, take, All, slice_index, slice_index_or}
use Rattle.dense_blocks.specs.Field.{Ops}
use Rattle.dense_blocks.specs.Vectors.{IsVector, dot, combination}
use Rattle.dense_blocks.specs.declared.solution.Solution.{Solution}
use Rattle.dense_blocks.specs.declared.solution.Solution.TheVariants.{Combination, Apart}

-- the lists in some vectors
abbrev pub lists : {Z : Type 0} → List (Vec ℕ Z) → List (List ℕ)
lists vs = map (λ v. v.items) vs

-- vector k is a combination of the vectors before it
pub record IsDependent (K : Ops) (n : ℕ) (vectors : List (List ℕ)) (k : ℕ) : Type 0 where
  pub by : List ℕ
  pub is : combination K n by (take k vectors) ≡ slice_index_or vectors k []

-- the coefficients c leave out each vector that earlier ones give
abbrev pub IsLeading : Ops → ℕ → List (List ℕ) → List ℕ → Type 0
IsLeading K n vectors c = (k : ℕ) → k < length vectors → IsDependent K n vectors k → slice_index c k ≡ 0

-- coordinate i of each column and of v is the same combination of their coordinates before it
pub record IsDependentCoordinate (K : Ops) (columns : List (List ℕ)) (v : List ℕ) (i : ℕ) : Type 0 where
  pub by : List ℕ
  pub of_columns : All (λ column. dot K by (take i column) ≡ slice_index column i) columns
  pub of_v : dot K by (take i v) ≡ slice_index v i

-- one scalar c for each column, and v is the combination of the columns by them; columns that earlier ones give are
-- left out
pub record Combines (K : Ops) (columns : List (List ℕ)) (v c : List ℕ) : Type 0 where
  pub coefficients : IsVector K (length columns) c
  pub gives : combination K (length v) c columns ≡ v
  pub leading : IsLeading K (length v) columns c

-- the functional p is 0 on each column and 1 on v; coordinates that earlier ones give are left out
pub record Separates (K : Ops) (columns : List (List ℕ)) (v p : List ℕ) : Type 0 where
  pub functional : IsVector K (length v) p
  pub zero : All (λ column. dot K p column ≡ 0) columns
  pub one : dot K p v ≡ 1
  pub leading : (i : ℕ) → i < length v → IsDependentCoordinate K columns v i → slice_index p i ≡ 0

-- a combination of the columns that gives v; where there is none, a functional that separates v from them
abbrev pub Solves : Ops → List (List ℕ) → List ℕ → Solution → Type 0
Solves K columns v (Combination c) = Combines K columns v c.items
Solves K columns v (Apart p) = Separates K columns v p.items × ((c : List ℕ) → combination K (length v) c columns ≢ v)
