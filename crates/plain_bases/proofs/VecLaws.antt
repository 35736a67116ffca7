-- Vectors in memory seen as lists.
use Rattle.std.proofs.Common.{◌≡◌, ℕ, zero, suc, ◌+◌, ◌<◌, List, [], ◌∷◌, ◌++◌, length, map, take, get_or, set, All}
use Rattle.std.proofs.Common.{Vec, Global, refl, sym, ap, ◌∙◌, subst, arith}
use Rattle.std.proofs.lemmas.List.{length-map, get_or-map, map_more, take_all}
use Rattle.dense_blocks.specs.Field.{Ops}
use Rattle.dense_blocks.specs.FieldLaws.{IsField}
use Rattle.dense_blocks.specs.Vectors.{IsVector, zeros}
use Rattle.dense_blocks.specs.MatrixFacts.{IsMatrix, identity}
use Rattle.dense_blocks.specs.Solutions.{lists}
use Rattle.dense_blocks.proofs.Shapes.{row-vector, from_vector}
use Rattle.dense_blocks.proofs.Cutting.{sized-size, sized-identity}
use Rattle.dense_blocks.proofs.MatrixLaws.{identity-matrix}

pub lists-size : (vs : List (Vec ℕ Global)) → length (lists vs) ≡ length vs
lists-size vs = length-map vs (λ v. v.items)

-- each vector of a matrix in memory
pub vector_at : (K : Ops) (m n : ℕ) (vs : List (Vec ℕ Global)) → IsMatrix K m n (lists vs) → (k : ℕ) (d : Vec ℕ Global)
    → k < length vs → IsVector K n (get_or vs k d).items
vector_at K m n vs h k d l = subst (IsVector K n) (get_or-map (λ v. v.items) vs k d [] l)
    (h.rows_are k [] (subst (λ j. k < j) (sym (lists-size vs)) l))

pub all_sizes : (K : Ops) (m n : ℕ) (vs : List (Vec ℕ Global)) → IsMatrix K m n (lists vs)
    → All (λ v. length v.items ≡ n) vs
all_sizes K m n vs h k d l = (vector_at K m n vs h k d l).size

pub each_scalars : (K : Ops) (m n : ℕ) (vs : List (Vec ℕ Global)) → IsMatrix K m n (lists vs)
    → All (λ v. All (λ a. a < K.order) v.items) vs
each_scalars K m n vs h k d l = (vector_at K m n vs h k d l).scalars

-- unit vectors
identity-size : (n : ℕ) → length (identity n) ≡ n
identity-size n = sized-size n n (identity n) (sized-identity n)

pub unit_row : (n j : ℕ) → j < n → set (zeros n) j 1 ≡ get_or (identity n) j []
unit_row zero j l = absurd (omega arith)
unit_row (suc n) zero l = refl
unit_row (suc n) (suc j) l = ap (λ v. 0 ∷ v) (unit_row n j (omega arith))
    ∙ sym (get_or-map (λ v. 0 ∷ v) (identity n) j [] [] (omega (arith, identity-size n)))

pub unit_is_vector : (K : Ops) (F : IsField K) (n j : ℕ) → j < n → IsVector K n (get_or (identity n) j [])
unit_is_vector K F n j l = from_vector K n (get_or (identity n) j [])
    (row-vector K n n (identity n) j (identity-matrix K F n) l)

-- one image more
pub images-next : (L : List ℕ → List ℕ) (n j : ℕ) → j < n → map L (take (j + 1) (identity n))
    ≡ map L (take j (identity n)) ++ L (get_or (identity n) j []) ∷ []
images-next L n j l = map_more L (identity n) j [] (omega (arith, identity-size n))

pub images-all : (L : List ℕ → List ℕ) (n j : ℕ) → j ≡ n → map L (take j (identity n)) ≡ map L (identity n)
images-all L n j e = ap (map L) (take_all j (identity n) (omega (arith, identity-size n)))
