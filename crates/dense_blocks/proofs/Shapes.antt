-- Vectors and matrices as proofs recurse on them, and the way to and from IsVector and IsMatrix.
use Rattle.std.proofs.Common.{◌≡◌, ℕ, zero, suc, ◌+◌, ◌<◌, List, [], ◌∷◌, ◌++◌, length, get_or, All, refl, sym, ap}
use Rattle.std.proofs.Common.{subst, zero-add, suc-add, arith, suc-le-suc}
use Rattle.dense_blocks.specs.Field.{Ops}
use Rattle.dense_blocks.specs.Vectors.{IsVector}
use Rattle.dense_blocks.specs.MatrixFacts.{IsMatrix}

-- n scalars, coordinate by coordinate: the form of IsVector that proofs recurse on
abbrev pub Vector : Ops → ℕ → List ℕ → Type 0
Vector K zero [] = Unit {0}
Vector K zero (a ∷ v) = ⊥
Vector K (suc n) [] = ⊥
Vector K (suc n) (a ∷ v) = (a < K.order) × Vector K n v

-- m rows of n scalars, row by row: the form of IsMatrix that proofs recurse on
abbrev pub Matrix : Ops → ℕ → ℕ → List (List ℕ) → Type 0
Matrix K zero n [] = Unit {0}
Matrix K zero n (r ∷ A) = ⊥
Matrix K (suc m) n [] = ⊥
Matrix K (suc m) n (r ∷ A) = Vector K n r × Matrix K m n A

pub vector_of : (K : Ops) (n : ℕ) (v : List ℕ) → length v ≡ n → All (λ a. a < K.order) v → Vector K n v
vector_of K zero [] e h = tt
vector_of K zero (a ∷ v) e h = absurd (omega arith)
vector_of K (suc n) [] e h = absurd (omega arith)
vector_of K (suc n) (a ∷ v) e h =
    (h 0 0 (omega arith), vector_of K n v (omega arith) (λ k d l. h (suc k) d (suc-le-suc l)))

pub to_vector : (K : Ops) (n : ℕ) (v : List ℕ) → IsVector K n v → Vector K n v
to_vector K n v h = vector_of K n v h.size h.scalars

pub vector-size : (K : Ops) (n : ℕ) (v : List ℕ) → Vector K n v → length v ≡ n
vector-size K zero [] h = refl
vector-size K zero (a ∷ v) h = absurd h
vector-size K (suc n) [] h = absurd h
vector-size K (suc n) (a ∷ v) h = ap suc (vector-size K n v h.1)

pub vector-scalars : (K : Ops) (n : ℕ) (v : List ℕ) → Vector K n v → All (λ a. a < K.order) v
vector-scalars K zero [] h k d l = absurd (omega arith)
vector-scalars K zero (a ∷ v) h k d l = absurd h
vector-scalars K (suc n) [] h k d l = absurd h
vector-scalars K (suc n) (a ∷ v) h zero d l = h.0
vector-scalars K (suc n) (a ∷ v) h (suc k) d l = vector-scalars K n v h.1 k d (omega arith)

pub from_vector : (K : Ops) (n : ℕ) (v : List ℕ) → Vector K n v → IsVector K n v
from_vector K n v h = record { size = vector-size K n v h; scalars = vector-scalars K n v h }

-- a vector of no coordinates
pub vector-nil : (K : Ops) (v : List ℕ) → Vector K 0 v → v ≡ []
vector-nil K [] h = refl
vector-nil K (a ∷ v) h = absurd h

pub append-vector : (K : Ops) (m n : ℕ) (u v : List ℕ) → Vector K m u → Vector K n v → Vector K (m + n) (u ++ v)
append-vector K zero n [] v hu hv = subst (λ k. Vector K k v) (sym (zero-add n)) hv
append-vector K zero n (a ∷ u) v hu hv = absurd hu
append-vector K (suc m) n [] v hu hv = absurd hu
append-vector K (suc m) n (a ∷ u) v hu hv =
    subst (λ k. Vector K k (a ∷ (u ++ v))) (sym (suc-add m n)) (hu.0, append-vector K m n u v hu.1 hv)

pub matrix_of_rows : (K : Ops) (m n : ℕ) (A : List (List ℕ)) → length A ≡ m → All (IsVector K n) A → Matrix K m n A
matrix_of_rows K zero n [] e h = tt
matrix_of_rows K zero n (r ∷ A) e h = absurd (omega arith)
matrix_of_rows K (suc m) n [] e h = absurd (omega arith)
matrix_of_rows K (suc m) n (r ∷ A) e h =
    (to_vector K n r (h 0 [] (omega arith)), matrix_of_rows K m n A (omega arith) (λ k d l. h (suc k) d (suc-le-suc l)))

pub to_matrix : (K : Ops) (m n : ℕ) (A : List (List ℕ)) → IsMatrix K m n A → Matrix K m n A
to_matrix K m n A h = matrix_of_rows K m n A h.size h.rows_are

pub matrix-size : (K : Ops) (m n : ℕ) (A : List (List ℕ)) → Matrix K m n A → length A ≡ m
matrix-size K zero n [] h = refl
matrix-size K zero n (r ∷ A) h = absurd h
matrix-size K (suc m) n [] h = absurd h
matrix-size K (suc m) n (r ∷ A) h = ap suc (matrix-size K m n A h.1)

pub matrix-rows : (K : Ops) (m n : ℕ) (A : List (List ℕ)) → Matrix K m n A → All (IsVector K n) A
matrix-rows K zero n [] h k d l = absurd (omega arith)
matrix-rows K zero n (r ∷ A) h k d l = absurd h
matrix-rows K (suc m) n [] h k d l = absurd h
matrix-rows K (suc m) n (r ∷ A) h zero d l = from_vector K n r h.0
matrix-rows K (suc m) n (r ∷ A) h (suc k) d l = matrix-rows K m n A h.1 k d (omega arith)

pub from_matrix : (K : Ops) (m n : ℕ) (A : List (List ℕ)) → Matrix K m n A → IsMatrix K m n A
from_matrix K m n A h = record { size = matrix-size K m n A h; rows_are = matrix-rows K m n A h }

-- the row at i
pub row-vector : (K : Ops) (m n : ℕ) (A : List (List ℕ)) (i : ℕ) → Matrix K m n A → i < m → Vector K n (get_or A i [])
row-vector K m n A i h l =
    to_vector K n (get_or A i []) (matrix-rows K m n A h i [] (subst (λ k. i < k) (sym (matrix-size K m n A h)) l))

pub append-matrix : (K : Ops) (k m n : ℕ) (A B : List (List ℕ)) → Matrix K k n A → Matrix K m n B
    → Matrix K (k + m) n (A ++ B)
append-matrix K zero m n [] B ha hb = subst (λ l. Matrix K l n B) (sym (zero-add m)) hb
append-matrix K zero m n (r ∷ A) B ha hb = absurd ha
append-matrix K (suc k) m n [] B ha hb = absurd ha
append-matrix K (suc k) m n (r ∷ A) B ha hb =
    subst (λ l. Matrix K l n (r ∷ (A ++ B))) (sym (suc-add k m)) (ha.0, append-matrix K k m n A B ha.1 hb)
