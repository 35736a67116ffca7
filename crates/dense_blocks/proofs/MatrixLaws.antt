-- Laws of matrices as lists of rows: shapes, sums, matrices applied to vectors, products.
-- A law is named by its left side, the outermost word first.
use Rattle.std.proofs.Common.{◌≡◌, ℕ, zero, suc, ◌<◌, List, [], ◌∷◌, map, get_or, refl, sym, ap, ap₂, ◌∙◌, arith}
use Rattle.dense_blocks.specs.Field.{Ops}
use Rattle.dense_blocks.specs.FieldLaws.{IsField}
use Rattle.dense_blocks.specs.Vectors.{zeros, plus, multiple, dot, combination}
use Rattle.dense_blocks.specs.MatrixFacts.{negative, identity, zero_matrix, matrix_sum, IsInverse, matrix_negative}
use Rattle.dense_blocks.specs.Matrices.{image_of, product}
use Rattle.dense_blocks.proofs.ScalarLaws.{zero_below, one_below, zero_add, mul_zero, zero_mul, one_mul}
use Rattle.dense_blocks.proofs.Shapes.{Vector, Matrix, to_matrix}
use Rattle.dense_blocks.proofs.VectorLaws.{zeros-vector, plus-vector, negative-vector}
use Rattle.dense_blocks.proofs.VectorLaws.{combination-vector, plus-comm, zeros-plus}
use Rattle.dense_blocks.proofs.VectorLaws.{plus-zeros, zeros-plus-zeros, negative-of-plus}
use Rattle.dense_blocks.proofs.VectorLaws.{negative-zeros, multiple-negative}
use Rattle.dense_blocks.proofs.VectorLaws.{multiple-zeros, multiple-zero, multiple-one, dot-below, dot-plus, plus-dot}
use Rattle.dense_blocks.proofs.VectorLaws.{dot-multiple, dot-negative, negative-dot, dot-zeros, zeros-dot, vector-ext}
use Rattle.dense_blocks.proofs.VectorLaws.{combination-zeros}
use Rattle.dense_blocks.proofs.VectorLaws.{combination-combination, combination-dot}

-- the row at i of a product
pub product-row : (K : Ops) (l m n i : ℕ) (A B : List (List ℕ)) → Matrix K l m A → i < l
    → get_or (product K n A B) i [] ≡ combination K n (get_or A i []) B
product-row K zero m n i A B h w = absurd (omega arith)
product-row K (suc l) m n i [] B h w = absurd h
product-row K (suc l) m n zero (r ∷ A) B h w = refl
product-row K (suc l) m n (suc i) (r ∷ A) B h w = product-row K l m n i A B h.1 (omega arith)

-- a matrix without columns, and one without rows
pub no-columns : (K : Ops) (m : ℕ) (A : List (List ℕ)) → Matrix K m 0 A → A ≡ zero_matrix m 0
no-columns K zero [] h = refl
no-columns K zero (r ∷ A) h = absurd h
no-columns K (suc m) [] h = absurd h
no-columns K (suc m) ([] ∷ A) h = ap (λ t. [] ∷ t) (no-columns K m A h.1)
no-columns K (suc m) ((a ∷ r) ∷ A) h = absurd h.0

pub no-rows : (K : Ops) (n : ℕ) (A : List (List ℕ)) → Matrix K 0 n A → A ≡ []
no-rows K n [] h = refl
no-rows K n (r ∷ A) h = absurd h

module _ (K : Ops) (F : IsField K) where
  -- shapes
  pub zero_matrix-matrix : (m n : ℕ) → Matrix K m n (zero_matrix m n)
  zero_matrix-matrix zero n = tt
  zero_matrix-matrix (suc m) n = (zeros-vector K F n, zero_matrix-matrix m n)

  shifted-matrix : (m n : ℕ) (A : List (List ℕ)) → Matrix K m n A → Matrix K m (suc n) (map (λ row. 0 ∷ row) A)
  shifted-matrix zero n [] h = tt
  shifted-matrix zero n (r ∷ A) h = absurd h
  shifted-matrix (suc m) n [] h = absurd h
  shifted-matrix (suc m) n (r ∷ A) h = ((zero_below K F, h.0), shifted-matrix m n A h.1)

  pub identity-matrix : (n : ℕ) → Matrix K n n (identity n)
  identity-matrix zero = tt
  identity-matrix (suc n) = ((one_below K F, zeros-vector K F n), shifted-matrix n n (identity n) (identity-matrix n))

  pub matrix_sum-matrix : (m n : ℕ) (A B : List (List ℕ)) → Matrix K m n A → Matrix K m n B
      → Matrix K m n (matrix_sum K A B)
  matrix_sum-matrix zero n [] B ha hb = tt
  matrix_sum-matrix zero n (a ∷ A) B ha hb = absurd ha
  matrix_sum-matrix (suc m) n [] B ha hb = absurd ha
  matrix_sum-matrix (suc m) n (a ∷ A) [] ha hb = absurd hb
  matrix_sum-matrix (suc m) n (a ∷ A) (b ∷ B) ha hb =
      (plus-vector K F n a b ha.0 hb.0, matrix_sum-matrix m n A B ha.1 hb.1)

  pub matrix_negative-matrix : (m n : ℕ) (A : List (List ℕ)) → Matrix K m n A → Matrix K m n (matrix_negative K A)
  matrix_negative-matrix zero n [] h = tt
  matrix_negative-matrix zero n (r ∷ A) h = absurd h
  matrix_negative-matrix (suc m) n [] h = absurd h
  matrix_negative-matrix (suc m) n (r ∷ A) h = (negative-vector K F n r h.0, matrix_negative-matrix m n A h.1)

  pub product-matrix : (l m n : ℕ) (A B : List (List ℕ)) → Matrix K l m A → Matrix K m n B
      → Matrix K l n (product K n A B)
  product-matrix zero m n [] B ha hb = tt
  product-matrix zero m n (r ∷ A) B ha hb = absurd ha
  product-matrix (suc l) m n [] B ha hb = absurd ha
  product-matrix (suc l) m n (r ∷ A) B ha hb = (combination-vector K F m n r B hb, product-matrix l m n A B ha.1 hb)

  pub image_of-vector : (m n : ℕ) (A : List (List ℕ)) (v : List ℕ) → Matrix K m n A → Vector K m (image_of K A v)
  image_of-vector zero n [] v h = tt
  image_of-vector zero n (r ∷ A) v h = absurd h
  image_of-vector (suc m) n [] v h = absurd h
  image_of-vector (suc m) n (r ∷ A) v h = (dot-below K F r v, image_of-vector m n A v h.1)

  -- sums and negatives
  pub matrix_sum-comm : (A B : List (List ℕ)) → matrix_sum K A B ≡ matrix_sum K B A
  matrix_sum-comm [] [] = refl
  matrix_sum-comm [] (b ∷ B) = refl
  matrix_sum-comm (a ∷ A) [] = refl
  matrix_sum-comm (a ∷ A) (b ∷ B) = ap₂ ◌∷◌ (plus-comm K F a b) (matrix_sum-comm A B)

  pub zero_matrix-sum : (m n : ℕ) (A : List (List ℕ)) → Matrix K m n A → matrix_sum K (zero_matrix m n) A ≡ A
  zero_matrix-sum zero n [] h = refl
  zero_matrix-sum zero n (r ∷ A) h = absurd h
  zero_matrix-sum (suc m) n [] h = absurd h
  zero_matrix-sum (suc m) n (r ∷ A) h = ap₂ ◌∷◌ (zeros-plus K F n r h.0) (zero_matrix-sum m n A h.1)

  pub matrix_sum-zero_matrix : (m n : ℕ) (A : List (List ℕ)) → Matrix K m n A → matrix_sum K A (zero_matrix m n) ≡ A
  matrix_sum-zero_matrix m n A h = matrix_sum-comm A (zero_matrix m n) ∙ zero_matrix-sum m n A h

  pub matrix_negative-zero_matrix : (m n : ℕ) → matrix_negative K (zero_matrix m n) ≡ zero_matrix m n
  matrix_negative-zero_matrix zero n = refl
  matrix_negative-zero_matrix (suc m) n = ap₂ ◌∷◌ (negative-zeros K F n) (matrix_negative-zero_matrix m n)

  -- a matrix applied is linear in the vector
  pub image_of-plus : (n : ℕ) (A : List (List ℕ)) (u v : List ℕ) → Vector K n u → Vector K n v
      → image_of K A (plus K u v) ≡ plus K (image_of K A u) (image_of K A v)
  image_of-plus n [] u v hu hv = refl
  image_of-plus n (r ∷ A) u v hu hv = ap₂ ◌∷◌ (dot-plus K F n r u v hu hv) (image_of-plus n A u v hu hv)

  pub image_of-multiple : (k : ℕ) (A : List (List ℕ)) (v : List ℕ) → image_of K A (multiple K k v)
      ≡ multiple K k (image_of K A v)
  image_of-multiple k [] v = refl
  image_of-multiple k (r ∷ A) v = ap₂ ◌∷◌ (dot-multiple K F k r v) (image_of-multiple k A v)

  pub image_of-negative : (A : List (List ℕ)) (v : List ℕ) → image_of K A (negative K v) ≡ negative K (image_of K A v)
  image_of-negative [] v = refl
  image_of-negative (r ∷ A) v = ap₂ ◌∷◌ (dot-negative K F r v) (image_of-negative A v)

  pub image_of-zeros : (k m n : ℕ) (A : List (List ℕ)) → Matrix K m n A → image_of K A (zeros k) ≡ zeros m
  image_of-zeros k zero n [] h = refl
  image_of-zeros k zero n (r ∷ A) h = absurd h
  image_of-zeros k (suc m) n [] h = absurd h
  image_of-zeros k (suc m) n (r ∷ A) h = ap₂ ◌∷◌ (dot-zeros K F k r) (image_of-zeros k m n A h.1)

  pub image_of-nil : (m n : ℕ) (A : List (List ℕ)) → Matrix K m n A → image_of K A [] ≡ zeros m
  image_of-nil m n A h = image_of-zeros 0 m n A h

  -- and in the matrix
  pub matrix_sum-image_of : (m n : ℕ) (A B : List (List ℕ)) (v : List ℕ) → Matrix K m n A → Matrix K m n B
      → image_of K (matrix_sum K A B) v ≡ plus K (image_of K A v) (image_of K B v)
  matrix_sum-image_of m n [] B v ha hb = refl
  matrix_sum-image_of zero n (a ∷ A) B v ha hb = absurd ha
  matrix_sum-image_of (suc m) n (a ∷ A) [] v ha hb = absurd hb
  matrix_sum-image_of (suc m) n (a ∷ A) (b ∷ B) v ha hb = ap₂ ◌∷◌ (plus-dot K F n a b v ha.0 hb.0)
      (matrix_sum-image_of m n A B v ha.1 hb.1)

  pub matrix_negative-image_of : (A : List (List ℕ)) (v : List ℕ) → image_of K (matrix_negative K A) v
      ≡ negative K (image_of K A v)
  matrix_negative-image_of [] v = refl
  matrix_negative-image_of (r ∷ A) v = ap₂ ◌∷◌ (negative-dot K F r v) (matrix_negative-image_of A v)

  pub zero_matrix-image_of : (m n : ℕ) (v : List ℕ) → image_of K (zero_matrix m n) v ≡ zeros m
  zero_matrix-image_of zero n v = refl
  zero_matrix-image_of (suc m) n v = ap₂ ◌∷◌ (zeros-dot K F n v) (zero_matrix-image_of m n v)

  shifted-image_of : (A : List (List ℕ)) (a : ℕ) (v : List ℕ) → image_of K (map (λ row. 0 ∷ row) A) (a ∷ v)
      ≡ image_of K A v
  shifted-image_of [] a v = refl
  shifted-image_of (r ∷ A) a v =
      ap₂ ◌∷◌ (ap (λ t. K.add t (dot K r v)) (zero_mul K F a) ∙ zero_add K F (dot K r v) (dot-below K F r v))
      (shifted-image_of A a v)

  pub identity-image_of : (n : ℕ) (v : List ℕ) → Vector K n v → image_of K (identity n) v ≡ v
  identity-image_of zero [] h = refl
  identity-image_of zero (a ∷ v) h = absurd h
  identity-image_of (suc n) [] h = absurd h
  identity-image_of (suc n) (a ∷ v) h =
      ap₂ ◌∷◌ (ap₂ K.add (one_mul K F a h.0) (zeros-dot K F n v) ∙ F.add_zero a h.0)
      (shifted-image_of (identity n) a v ∙ identity-image_of n v h.1)

  -- a product acts as one factor after the other
  pub product-image_of : (m n : ℕ) (A B : List (List ℕ)) (v : List ℕ) → Matrix K m n B
      → image_of K (product K n A B) v ≡ image_of K A (image_of K B v)
  product-image_of m n [] B v h = refl
  product-image_of m n (r ∷ A) B v h = ap₂ ◌∷◌ (combination-dot K F m n r B v h) (product-image_of m n A B v h)

  -- matrices that act alike are one
  pub matrix-ext : (m n : ℕ) (A B : List (List ℕ)) → Matrix K m n A → Matrix K m n B
      → ((v : List ℕ) → Vector K n v → image_of K A v ≡ image_of K B v) → A ≡ B
  matrix-ext zero n [] [] ha hb e = refl
  matrix-ext zero n [] (s ∷ B) ha hb e = absurd hb
  matrix-ext zero n (r ∷ A) B ha hb e = absurd ha
  matrix-ext (suc m) n [] B ha hb e = absurd ha
  matrix-ext (suc m) n (r ∷ A) [] ha hb e = absurd hb
  matrix-ext (suc m) n (r ∷ A) (s ∷ B) ha hb e =
      ap₂ ◌∷◌
      (vector-ext K F n r s ha.0 hb.0 (λ v h. first (dot K r v) (dot K s v) (image_of K A v) (image_of K B v) (e v h)))
      (matrix-ext m n A B ha.1 hb.1 (λ v h. rest (dot K r v) (dot K s v) (image_of K A v) (image_of K B v) (e v h)))
    where
      first : (a b : ℕ) (u v : List ℕ) → ◌≡◌ {A = List ℕ} (a ∷ u) (b ∷ v) → a ≡ b
      first a b u v e = cc

      rest : (a b : ℕ) (u v : List ℕ) → ◌≡◌ {A = List ℕ} (a ∷ u) (b ∷ v) → u ≡ v
      rest a b u v e = cc

  pub combination-matrix_negative : (n : ℕ) (cs : List ℕ) (A : List (List ℕ))
      → combination K n cs (matrix_negative K A) ≡ negative K (combination K n cs A)
  combination-matrix_negative n [] A = sym (negative-zeros K F n)
  combination-matrix_negative n (c ∷ cs) [] = sym (negative-zeros K F n)
  combination-matrix_negative n (c ∷ cs) (a ∷ A) =
      ap₂ (plus K) (multiple-negative K F c a) (combination-matrix_negative n cs A)
      ∙ sym (negative-of-plus K F (multiple K c a) (combination K n cs A))

  pub combination-zero_matrix : (m n : ℕ) (cs : List ℕ) → combination K n cs (zero_matrix m n) ≡ zeros n
  combination-zero_matrix m n [] = refl
  combination-zero_matrix zero n (c ∷ cs) = refl
  combination-zero_matrix (suc m) n (c ∷ cs) =
      ap₂ (plus K) (multiple-zeros K F c n) (combination-zero_matrix m n cs) ∙ zeros-plus-zeros K F n

  combination-shifted : (n : ℕ) (cs : List ℕ) (A : List (List ℕ)) → combination K (suc n) cs (map (λ row. 0 ∷ row) A)
      ≡ 0 ∷ combination K n cs A
  combination-shifted n [] A = refl
  combination-shifted n (c ∷ cs) [] = refl
  combination-shifted n (c ∷ cs) (a ∷ A) =
      ap (plus K (K.mul c 0 ∷ multiple K c a)) (combination-shifted n cs A)
      ∙ ap (λ t. t ∷ plus K (multiple K c a) (combination K n cs A)) (ap (λ t. K.add t 0) (mul_zero K F c)
      ∙ F.add_zero 0 (zero_below K F))

  -- a vector is the combination of the unit vectors by its coordinates
  pub combination-identity : (n : ℕ) (v : List ℕ) → Vector K n v → combination K n v (identity n) ≡ v
  combination-identity zero [] h = refl
  combination-identity zero (a ∷ v) h = absurd h
  combination-identity (suc n) [] h = absurd h
  combination-identity (suc n) (a ∷ v) h =
      ap (plus K (K.mul a 1 ∷ multiple K a (zeros n))) (combination-shifted n v (identity n))
      ∙ ap₂ ◌∷◌ (ap (λ t. K.add t 0) (F.mul_one a h.0) ∙ F.add_zero a h.0)
      (ap₂ (plus K) (multiple-zeros K F a n) (combination-identity n v h.1) ∙ zeros-plus K F n v h.1)

  -- products: associative, with the identity on both sides
  pub product-assoc : (k l m n : ℕ) (A B C : List (List ℕ)) → Matrix K k l A → Matrix K l m B → Matrix K m n C
      → product K n (product K m A B) C ≡ product K n A (product K n B C)
  product-assoc k l m n [] B C ha hb hc = refl
  product-assoc zero l m n (r ∷ A) B C ha hb hc = absurd ha
  product-assoc (suc k) l m n (r ∷ A) B C ha hb hc =
      ap₂ ◌∷◌ (combination-combination K F l m n r B C hb hc) (product-assoc k l m n A B C ha.1 hb hc)

  pub product-identity : (m n : ℕ) (A : List (List ℕ)) → Matrix K m n A → product K n A (identity n) ≡ A
  product-identity zero n [] h = refl
  product-identity zero n (r ∷ A) h = absurd h
  product-identity (suc m) n [] h = absurd h
  product-identity (suc m) n (r ∷ A) h = ap₂ ◌∷◌ (combination-identity n r h.0) (product-identity m n A h.1)

  shifted-product : (m n : ℕ) (A : List (List ℕ)) (b : List ℕ) (B : List (List ℕ)) → Vector K n b → Matrix K m n B
      → product K n (map (λ row. 0 ∷ row) A) (b ∷ B) ≡ product K n A B
  shifted-product m n [] b B h hb = refl
  shifted-product m n (r ∷ A) b B h hb =
      ap₂ ◌∷◌
      (ap (λ t. plus K t (combination K n r B)) (multiple-zero K F n b h) ∙ zeros-plus K F n (combination K n r B)
      (combination-vector K F m n r B hb))
      (shifted-product m n A b B h hb)

  pub identity-product : (m n : ℕ) (A : List (List ℕ)) → Matrix K m n A → product K n (identity m) A ≡ A
  identity-product zero n [] h = refl
  identity-product zero n (r ∷ A) h = absurd h
  identity-product (suc m) n [] h = absurd h
  identity-product (suc m) n (r ∷ A) h =
      ap₂ ◌∷◌
      (ap₂ (plus K) (multiple-one K F n r h.0) (combination-zeros K F m m n A h.1) ∙ plus-zeros K F n r h.0)
      (shifted-product m n (identity m) r A h.0 h.1 ∙ identity-product m n A h.1)

  -- zero factors
  pub product-zero_matrix : (l m n : ℕ) (A : List (List ℕ)) → Matrix K l m A → product K n A (zero_matrix m n)
      ≡ zero_matrix l n
  product-zero_matrix zero m n [] h = refl
  product-zero_matrix zero m n (r ∷ A) h = absurd h
  product-zero_matrix (suc l) m n [] h = absurd h
  product-zero_matrix (suc l) m n (r ∷ A) h = ap₂ ◌∷◌ (combination-zero_matrix m n r) (product-zero_matrix l m n A h.1)

  pub zero_matrix-product : (l m n : ℕ) (B : List (List ℕ)) → Matrix K m n B → product K n (zero_matrix l m) B
      ≡ zero_matrix l n
  zero_matrix-product zero m n B h = refl
  zero_matrix-product (suc l) m n B h = ap₂ ◌∷◌ (combination-zeros K F m m n B h) (zero_matrix-product l m n B h)

  -- signs come out of a product
  pub product-matrix_negative : (n : ℕ) (A B : List (List ℕ)) → product K n A (matrix_negative K B)
      ≡ matrix_negative K (product K n A B)
  product-matrix_negative n [] B = refl
  product-matrix_negative n (r ∷ A) B = ap₂ ◌∷◌ (combination-matrix_negative n r B) (product-matrix_negative n A B)

  -- a left and a right inverse of one matrix are the same
  pub left-inverse-right : (n : ℕ) (A B C : List (List ℕ)) → Matrix K n n A → Matrix K n n B → Matrix K n n C
      → product K n B A ≡ identity n → product K n A C ≡ identity n → B ≡ C
  left-inverse-right n A B C ha hb hc l r =
      sym (product-identity n n B hb) ∙ ap (product K n B) (sym r) ∙ sym (product-assoc n n n n B A C hb ha hc)
      ∙ ap (λ t. product K n t C) l ∙ identity-product n n C hc

  pub inverse-unique : (n : ℕ) (A B C : List (List ℕ)) → Matrix K n n A → IsInverse K n A B → IsInverse K n A C → B ≡ C
  inverse-unique n A B C ha hb hc =
      left-inverse-right n A B C ha (to_matrix K n n B hb.shape) (to_matrix K n n C hc.shape) hb.left hc.right

  pub inverse-image_of : (n : ℕ) (A B : List (List ℕ)) (v : List ℕ) → Matrix K n n A → IsInverse K n A B → Vector K n v
      → image_of K B (image_of K A v) ≡ v
  inverse-image_of n A B v ha h hv = sym (product-image_of n n B A v ha) ∙ ap (λ t. image_of K t v) h.left
      ∙ identity-image_of n v hv

  pub image_of-inverse : (n : ℕ) (A B : List (List ℕ)) (v : List ℕ) → IsInverse K n A B → Vector K n v
      → image_of K A (image_of K B v) ≡ v
  image_of-inverse n A B v h hv = sym (product-image_of n n A B v (to_matrix K n n B h.shape))
      ∙ ap (λ t. image_of K t v) h.right ∙ identity-image_of n v hv
