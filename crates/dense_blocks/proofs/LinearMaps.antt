-- Linear maps of vectors, and their matrices.
use Rattle.std.proofs.Common.{◌≡◌, ℕ, zero, suc, List, [], ◌∷◌, map, refl, sym, ap, ap₂, ◌∙◌, subst}
use Rattle.dense_blocks.specs.Field.{Ops}
use Rattle.dense_blocks.specs.FieldLaws.{IsField}
use Rattle.dense_blocks.specs.Vectors.{zeros, plus, multiple, dot, combination}
use Rattle.dense_blocks.specs.Matrices.{image_of}
use Rattle.dense_blocks.specs.MatrixFacts.{identity, zero_matrix}
use Rattle.dense_blocks.proofs.Shapes.{Vector, Matrix, to_vector, from_vector, to_matrix, from_matrix}
use Rattle.dense_blocks.proofs.VectorLaws.{zeros-vector, plus-vector, plus-cross, multiple-vector, multiple-plus}
use Rattle.dense_blocks.proofs.VectorLaws.{multiple-zero, multiple-zeros, zeros-plus-zeros, combination-vector}
use Rattle.dense_blocks.proofs.MatrixLaws.{image_of-vector, image_of-plus, image_of-multiple, zero_matrix-matrix}
use Rattle.dense_blocks.proofs.MatrixLaws.{zero_matrix-image_of, identity-matrix, combination-identity, matrix-ext}
use Rattle.dense_blocks.specs.LinearMaps.{IsMatrixOf}

-- f sends vectors of n coordinates to vectors of m, sums to sums and multiples to multiples
pub record IsLinear (K : Ops) (m n : ℕ) (f : List ℕ → List ℕ) : Type 0 where
  pub vector : (z : List ℕ) → Vector K n z → Vector K m (f z)
  pub sums : (u z : List ℕ) → Vector K n u → Vector K n z → f (plus K u z) ≡ plus K (f u) (f z)
  pub multiples : (c : ℕ) (z : List ℕ) → Vector K n z → f (multiple K c z) ≡ multiple K c (f z)

pub linear-same : (K : Ops) (m n : ℕ) (f g : List ℕ → List ℕ) → ((z : List ℕ) → f z ≡ g z) → IsLinear K m n f
    → IsLinear K m n g
linear-same K m n f g e l = record {
  vector = λ z hz. subst (Vector K m) (e z) (l.vector z hz);
  sums = λ u z hu hz. sym (e (plus K u z)) ∙ l.sums u z hu hz ∙ ap₂ (plus K) (e u) (e z);
  multiples = λ c z hz. sym (e (multiple K c z)) ∙ l.multiples c z hz ∙ ap (multiple K c) (e z);
}

-- the matrix with these columns of m entries
abbrev onto : List ℕ → List (List ℕ) → List (List ℕ)
onto [] A = []
onto (a ∷ r) [] = []
onto (a ∷ r) (c ∷ A) = (a ∷ c) ∷ onto r A

abbrev pub by_columns : ℕ → List (List ℕ) → List (List ℕ)
by_columns m [] = zero_matrix m 0
by_columns m (r ∷ A) = onto r (by_columns m A)

module _ (K : Ops) (F : IsField K) where
  onto-matrix : (m n : ℕ) (r : List ℕ) (A : List (List ℕ)) → Vector K m r → Matrix K m n A
      → Matrix K m (suc n) (onto r A)
  onto-matrix zero n [] A hr ha = tt
  onto-matrix zero n (a ∷ r) A hr ha = absurd hr
  onto-matrix (suc m) n [] A hr ha = absurd hr
  onto-matrix (suc m) n (a ∷ r) [] hr ha = absurd ha
  onto-matrix (suc m) n (a ∷ r) (c ∷ A) hr ha = ((hr.0, ha.0), onto-matrix m n r A hr.1 ha.1)

  pub columns-matrix : (n m : ℕ) (A : List (List ℕ)) → Matrix K n m A → Matrix K m n (by_columns m A)
  columns-matrix zero m [] h = zero_matrix-matrix K F m 0
  columns-matrix zero m (r ∷ A) h = absurd h
  columns-matrix (suc n) m [] h = absurd h
  columns-matrix (suc n) m (r ∷ A) h = onto-matrix m n r (by_columns m A) h.0 (columns-matrix n m A h.1)

  image_of-onto : (m n : ℕ) (r : List ℕ) (A : List (List ℕ)) (c : ℕ) (d : List ℕ) → Vector K m r → Matrix K m n A
      → image_of K (onto r A) (c ∷ d) ≡ plus K (multiple K c r) (image_of K A d)
  image_of-onto zero n [] A c d hr ha = refl
  image_of-onto zero n (a ∷ r) A c d hr ha = absurd hr
  image_of-onto (suc m) n [] A c d hr ha = absurd hr
  image_of-onto (suc m) n (a ∷ r) [] c d hr ha = absurd ha
  image_of-onto (suc m) n (a ∷ r) (q ∷ A) c d hr ha =
      ap₂ (λ s t. K.add s (dot K q d) ∷ t) (F.mul_comm a c) (image_of-onto m n r A c d hr.1 ha.1)

  -- it makes the combination of the columns
  pub image_of-columns : (n m : ℕ) (A : List (List ℕ)) (d : List ℕ) → Matrix K n m A → Vector K n d
      → image_of K (by_columns m A) d ≡ combination K m d A
  image_of-columns zero m [] [] h hd = zero_matrix-image_of K F m 0 []
  image_of-columns zero m [] (c ∷ d) h hd = absurd hd
  image_of-columns zero m (r ∷ A) d h hd = absurd h
  image_of-columns (suc n) m [] d h hd = absurd h
  image_of-columns (suc n) m (r ∷ A) [] h hd = absurd hd
  image_of-columns (suc n) m (r ∷ A) (c ∷ d) h hd =
      image_of-onto m n r (by_columns m A) c d h.0 (columns-matrix n m A h.1)
      ∙ ap (plus K (multiple K c r)) (image_of-columns n m A d h.1 hd.1)

  module _ (m n : ℕ) (f : List ℕ → List ℕ) (l : IsLinear K m n f) where
    pub linear-zeros : f (zeros n) ≡ zeros m
    linear-zeros =
        let hz = zeros-vector K F n in
        ap f (sym (multiple-zero K F n (zeros n) hz)) ∙ l.multiples 0 (zeros n) hz
        ∙ multiple-zero K F m (f (zeros n)) (l.vector (zeros n) hz)

    pub linear-combination : (k : ℕ) (cs : List ℕ) (vs : List (List ℕ)) → Matrix K k n vs → f (combination K n cs vs)
        ≡ combination K m cs (map f vs)
    linear-combination k [] vs h = linear-zeros
    linear-combination k (c ∷ cs) [] h = linear-zeros
    linear-combination zero (c ∷ cs) (v ∷ vs) h = absurd h
    linear-combination (suc k) (c ∷ cs) (v ∷ vs) h =
        l.sums (multiple K c v) (combination K n cs vs) (multiple-vector K F n c v h.0)
        (combination-vector K F k n cs vs h.1)
        ∙ ap₂ (plus K) (l.multiples c v h.0) (linear-combination k cs vs h.1)

    images-matrix : (k : ℕ) (vs : List (List ℕ)) → Matrix K k n vs → Matrix K k m (map f vs)
    images-matrix zero [] h = tt
    images-matrix zero (v ∷ vs) h = absurd h
    images-matrix (suc k) [] h = absurd h
    images-matrix (suc k) (v ∷ vs) h = (l.vector v h.0, images-matrix k vs h.1)

    -- a linear map has a matrix
    abbrev pub matrix_for : List (List ℕ)
    matrix_for = by_columns m (map f (identity n))

    pub linear-matrix : IsMatrixOf K m n f matrix_for
    linear-matrix =
        let images = images-matrix n (identity n) (identity-matrix K F n) in record {
          shape = from_matrix K m n matrix_for (columns-matrix n m (map f (identity n)) images);
          sends = λ z hz.
              let h = to_vector K n z hz in
              image_of-columns n m (map f (identity n)) z images h
              ∙ sym (linear-combination n z (identity n) (identity-matrix K F n))
              ∙ ap f (combination-identity K F n z h);
        }

  -- and only one
  pub one_matrix : (m n : ℕ) (f : List ℕ → List ℕ) (A B : List (List ℕ)) → IsMatrixOf K m n f A → IsMatrixOf K m n f B
      → A ≡ B
  one_matrix m n f A B a b =
      matrix-ext K F m n A B (to_matrix K m n A a.shape) (to_matrix K m n B b.shape)
      (λ z h. a.sends z (from_vector K n z h) ∙ sym (b.sends z (from_vector K n z h)))

  pub linear-identity : (n : ℕ) → IsLinear K n n (λ z. z)
  linear-identity n = record { vector = λ z h. h; sums = λ u z hu hz. refl; multiples = λ c z h. refl }

  pub linear-zero : (m n : ℕ) → IsLinear K m n (λ z. zeros m)
  linear-zero m n = record {
    vector = λ z h. zeros-vector K F m;
    sums = λ u z hu hz. sym (zeros-plus-zeros K F m);
    multiples = λ c z h. sym (multiple-zeros K F c m);
  }

  pub linear-image_of : (m n : ℕ) (A : List (List ℕ)) → Matrix K m n A → IsLinear K m n (image_of K A)
  linear-image_of m n A h = record {
    vector = λ z hz. image_of-vector K F m n A z h;
    sums = λ u z hu hz. image_of-plus K F n A u z hu hz;
    multiples = λ c z hz. image_of-multiple K F c A z;
  }

  pub linear-then : (l m n : ℕ) (f g : List ℕ → List ℕ) → IsLinear K l m f → IsLinear K m n g
      → IsLinear K l n (λ z. f (g z))
  linear-then l m n f g p q = record {
    vector = λ z h. p.vector (g z) (q.vector z h);
    sums = λ u z hu hz. ap f (q.sums u z hu hz) ∙ p.sums (g u) (g z) (q.vector u hu) (q.vector z hz);
    multiples = λ c z h. ap f (q.multiples c z h) ∙ p.multiples c (g z) (q.vector z h);
  }

  pub linear-sum : (m n : ℕ) (f g : List ℕ → List ℕ) → IsLinear K m n f → IsLinear K m n g
      → IsLinear K m n (λ z. plus K (f z) (g z))
  linear-sum m n f g p q = record {
    vector = λ z h. plus-vector K F m (f z) (g z) (p.vector z h) (q.vector z h);
    sums = λ u z hu hz. ap₂ (plus K) (p.sums u z hu hz) (q.sums u z hu hz) ∙ plus-cross K F (f u) (f z) (g u) (g z);
    multiples = λ c z h. ap₂ (plus K) (p.multiples c z h) (q.multiples c z h) ∙ sym (multiple-plus K F c (f z) (g z));
  }
