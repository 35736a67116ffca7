-- Sums over lists of cells, of vectors and of matrices.
use Rattle.std.proofs.Common.{◌≡◌, ℕ, Bool, true, false, cond, not, ◌||◌, refl, sym, ap, ap₂, ◌∙◌, ◌⊎◌, inl, inr, List}
use Rattle.std.proofs.Common.{[], ◌∷◌, filter, eqb}
use Rattle.std.proofs.lemmas.Bool.{eq-eqb, ne_eqb, cases_eq}
use Rattle.dense_blocks.specs.Field.{Ops}
use Rattle.dense_blocks.specs.FieldLaws.{IsField}
use Rattle.dense_blocks.specs.Vectors.{zeros, plus}
use Rattle.dense_blocks.specs.MatrixFacts.{negative}
use Rattle.dense_blocks.specs.Matrices.{image_of}
use Rattle.dense_blocks.proofs.Shapes.{Vector, Matrix}
use Rattle.dense_blocks.proofs.VectorLaws.{plus-left-comm, zeros-plus, negative-zeros, negative-of-plus}
use Rattle.dense_blocks.proofs.MatrixLaws.{image_of-plus, image_of-zeros, zero_matrix-matrix, matrix_sum-matrix}
use Rattle.dense_blocks.proofs.MatrixLaws.{matrix_sum-image_of, zero_matrix-image_of}
use Rattle.cochain_vec.proofs.PathLaws.{sum_over, sum_over-vector}
use Rattle.rising_lists.specs.Rising.{IsRising, has}
use Rattle.rising_lists.proofs.Keyed.{rising_tail, head-absent}
use Rattle.block_complexes.specs.Differentials.{matrix_sum_over}

-- listed cells
pub has-head : (k : ℕ) (ks : List ℕ) → has k (k ∷ ks) ≡ true
has-head k ks = ap (λ b. b || has k ks) (eq-eqb k k refl)

pub has-tail : (c k : ℕ) (ks : List ℕ) → has c ks ≡ true → has c (k ∷ ks) ≡ true
has-tail c k ks h = ap (λ b. eqb k c || b) h ∙ or_true (eqb k c)
  where
    or_true : (b : Bool) → (b || true) ≡ true
    or_true true = refl
    or_true false = refl

-- a cell that is neither of two
abbrev pub is_other : ℕ → ℕ → ℕ → Bool
is_other x y t = not (eqb t x || eqb t y)

-- a fact of each listed cell, in the head and in the tail
abbrev pub Each : (ℕ → Type 0) → List ℕ → Type 0
Each P ks = (c : ℕ) → has c ks ≡ true → P c

module _ (K : Ops) (F : IsField K) (n : ℕ) where
  pub sum_over-equal : (f g : ℕ → List ℕ) (ks : List ℕ) → Each (λ t. f t ≡ g t) ks
      → sum_over K n f ks ≡ sum_over K n g ks
  sum_over-equal f g [] e = refl
  sum_over-equal f g (k ∷ ks) e = ap₂ (plus K) (e k (has-head k ks))
      (sum_over-equal f g ks (λ c h. e c (has-tail c k ks h)))

  pub sum_over-negative : (f : ℕ → List ℕ) (ks : List ℕ) → sum_over K n (λ t. negative K (f t)) ks
      ≡ negative K (sum_over K n f ks)
  sum_over-negative f [] = sym (negative-zeros K F n)
  sum_over-negative f (k ∷ ks) = ap (plus K (negative K (f k))) (sum_over-negative f ks)
      ∙ sym (negative-of-plus K F (f k) (sum_over K n f ks))

  pub image_of-sum_over : (m : ℕ) (A : List (List ℕ)) (f : ℕ → List ℕ) (ks : List ℕ) → Matrix K m n A
      → ((t : ℕ) → Vector K n (f t))
      → image_of K A (sum_over K n f ks) ≡ sum_over K m (λ t. image_of K A (f t)) ks
  image_of-sum_over m A f [] h v = image_of-zeros K F n m n A h
  image_of-sum_over m A f (k ∷ ks) h v =
      image_of-plus K F n A (f k) (sum_over K n f ks) (v k) (sum_over-vector K F n f ks v)
      ∙ ap (plus K (image_of K A (f k))) (image_of-sum_over m A f ks h v)

  -- x is listed once; y adds nothing
  module _ (f : ℕ → List ℕ) (shape : (t : ℕ) → Vector K n (f t)) (x y : ℕ) (none : f y ≡ zeros n) where
    sum_over-absent : (ks : List ℕ) → has x ks ≡ false → sum_over K n f ks ≡ sum_over K n f (filter (is_other x y) ks)
    sum_over-absent [] h = refl
    sum_over-absent (k ∷ ks) h = go (eqb k x) (cases_eq k y) h (sum_over-absent ks)
      where
        left : List ℕ
        left = filter (is_other x y) ks

        go : (b : Bool) → (k ≡ y) ⊎ (k ≡ y → ⊥) → (b || has x ks) ≡ false
            → (has x ks ≡ false → sum_over K n f ks ≡ sum_over K n f left)
            → plus K (f k) (sum_over K n f ks) ≡ sum_over K n f (cond (not (b || eqb k y)) (k ∷ left) left)
        go true c m rest = cc
        go false (inl e) m rest =
            rw (eq-eqb k y e) (ap (λ u. plus K u (sum_over K n f ks)) (ap f e ∙ none)
            ∙ zeros-plus K F n (sum_over K n f ks) (sum_over-vector K F n f ks shape) ∙ rest m)
        go false (inr c) m rest = rw (ne_eqb k y c) (ap (plus K (f k)) (rest m))

    pub sum_over-apart : (ks : List ℕ) → IsRising ks → has x ks ≡ true
        → sum_over K n f ks ≡ plus K (f x) (sum_over K n f (filter (is_other x y) ks))
    sum_over-apart [] r h = cc
    sum_over-apart (k ∷ ks) r h = go (cases_eq k x) (cases_eq k y) h (sum_over-apart ks (rising_tail k ks r))
      where
        left : List ℕ
        left = filter (is_other x y) ks

        go : (k ≡ x) ⊎ (k ≡ x → ⊥) → (k ≡ y) ⊎ (k ≡ y → ⊥) → (eqb k x || has x ks) ≡ true
            → (has x ks ≡ true → sum_over K n f ks ≡ plus K (f x) (sum_over K n f left))
            → plus K (f k) (sum_over K n f ks)
            ≡ plus K (f x) (sum_over K n f (cond (not (eqb k x || eqb k y)) (k ∷ left) left))
        go (inl e) d m rest =
            rw (eq-eqb k x e) (ap₂ (plus K) (ap f e)
            (sum_over-absent ks (ap (λ c. has c ks) (sym e) ∙ head-absent k ks r)))
        go (inr c) (inl e) m rest =
            let later = rest (sym (ap (λ b. b || has x ks) (ne_eqb k x c)) ∙ m) in
            rw (ne_eqb k x c, eq-eqb k y e)
            (ap (λ u. plus K u (sum_over K n f ks)) (ap f e ∙ none)
            ∙ zeros-plus K F n (sum_over K n f ks) (sum_over-vector K F n f ks shape) ∙ later)
        go (inr c) (inr d) m rest =
            let later = rest (sym (ap (λ b. b || has x ks) (ne_eqb k x c)) ∙ m) in
            rw (ne_eqb k x c, ne_eqb k y d) (ap (plus K (f k)) later
            ∙ plus-left-comm K F (f k) (f x) (sum_over K n f left))

-- sums of matrices of m rows and n columns
module _ (K : Ops) (F : IsField K) (m n : ℕ) (A : ℕ → List (List ℕ)) where
  pub matrix_sum_over-matrix : (ks : List ℕ) → Each (λ t. Matrix K m n (A t)) ks
      → Matrix K m n (matrix_sum_over K m n A ks)
  matrix_sum_over-matrix [] h = zero_matrix-matrix K F m n
  matrix_sum_over-matrix (k ∷ ks) h =
      matrix_sum-matrix K F m n (A k) (matrix_sum_over K m n A ks) (h k (has-head k ks))
      (matrix_sum_over-matrix ks (λ c l. h c (has-tail c k ks l)))

  pub matrix_sum_over-image_of : (z : List ℕ) (ks : List ℕ) → Each (λ t. Matrix K m n (A t)) ks
      → image_of K (matrix_sum_over K m n A ks) z ≡ sum_over K m (λ t. image_of K (A t) z) ks
  matrix_sum_over-image_of z [] h = zero_matrix-image_of K F m n z
  matrix_sum_over-image_of z (k ∷ ks) h =
      let rest = λ (c : ℕ) (l : has c ks ≡ true). h c (has-tail c k ks l) in
      matrix_sum-image_of K F m n (A k) (matrix_sum_over K m n A ks) z (h k (has-head k ks))
      (matrix_sum_over-matrix ks rest)
      ∙ ap (plus K (image_of K (A k) z)) (matrix_sum_over-image_of z ks rest)
