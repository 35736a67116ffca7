-- A transposed matrix sends vectors to combinations of the rows of the matrix, and its rows combine to images.
use Rattle.std.proofs.Common.{◌≡◌, ℕ, zero, suc, ◌+◌, ◌<◌, List, [], ◌∷◌, map, drop, get_or, refl, sym, ap, ap₂, ◌∙◌}
use Rattle.std.proofs.Common.{arith, length}
use Rattle.dense_blocks.specs.Field.{Ops}
use Rattle.dense_blocks.specs.FieldLaws.{IsField}
use Rattle.dense_blocks.specs.Vectors.{zeros, plus, multiple, dot, combination}
use Rattle.dense_blocks.specs.Matrices.{image_of}
use Rattle.dense_blocks.specs.MatrixFacts.{matrix_sum}
use Rattle.dense_blocks.proofs.Shapes.{Vector, Matrix}
use Rattle.dense_blocks.proofs.VectorLaws.{plus-cross, multiple-plus, zeros-plus-zeros, multiple-vector}
use Rattle.dense_blocks.proofs.VectorLaws.{combination-vector, dot-zeros}
use Rattle.equivalence_laws.specs.Transposes.{transpose}

module _ (K : Ops) (F : IsField K) where
  rest-matrix : (m n : ℕ) (A : List (List ℕ)) → Matrix K m (suc n) A → Matrix K m n (map (λ row. drop 1 row) A)
  rest-matrix zero n [] h = tt
  rest-matrix zero n (r ∷ A) h = absurd h
  rest-matrix (suc m) n [] h = absurd h
  rest-matrix (suc m) n ([] ∷ A) h = absurd h.0
  rest-matrix (suc m) n ((a ∷ r) ∷ A) h = (h.0.1, rest-matrix m n A h.1)

  first-vector : (m n : ℕ) (A : List (List ℕ)) → Matrix K m (suc n) A → Vector K m (map (λ row. get_or row 0 0) A)
  first-vector zero n [] h = tt
  first-vector zero n (r ∷ A) h = absurd h
  first-vector (suc m) n [] h = absurd h
  first-vector (suc m) n ([] ∷ A) h = absurd h.0
  first-vector (suc m) n ((a ∷ r) ∷ A) h = (h.0.0, first-vector m n A h.1)

  pub transpose-matrix : (m n : ℕ) (A : List (List ℕ)) → Matrix K m n A → Matrix K n m (transpose n A)
  transpose-matrix m zero A h = tt
  transpose-matrix m (suc n) A h =
      (first-vector m n A h, transpose-matrix m n (map (λ row. drop 1 row) A) (rest-matrix m n A h))

  -- the first column apart
  image_of-first : (m n c : ℕ) (cs : List ℕ) (A : List (List ℕ)) → Matrix K m (suc n) A
      → image_of K A (c ∷ cs) ≡ plus K (multiple K c (map (λ row. get_or row 0 0) A))
      (image_of K (map (λ row. drop 1 row) A) cs)
  image_of-first zero n c cs [] h = refl
  image_of-first zero n c cs (r ∷ A) h = absurd h
  image_of-first (suc m) n c cs [] h = absurd h
  image_of-first (suc m) n c cs ([] ∷ A) h = absurd h.0
  image_of-first (suc m) n c cs ((a ∷ r) ∷ A) h =
      ap₂ (λ p q. K.add p (dot K r cs) ∷ q) (F.mul_comm a c) (image_of-first m n c cs A h.1)

  combination-first : (m n : ℕ) (d : List ℕ) (A : List (List ℕ)) → Matrix K m (suc n) A → Vector K m d
      → combination K (suc n) d A ≡ dot K (map (λ row. get_or row 0 0) A) d
      ∷ combination K n d (map (λ row. drop 1 row) A)
  combination-first zero n [] [] h hd = refl
  combination-first zero n (c ∷ d) A h hd = absurd hd
  combination-first zero n [] (r ∷ A) h hd = absurd h
  combination-first (suc m) n [] A h hd = absurd hd
  combination-first (suc m) n (c ∷ d) [] h hd = absurd h
  combination-first (suc m) n (c ∷ d) ([] ∷ A) h hd = absurd h.0
  combination-first (suc m) n (c ∷ d) ((a ∷ r) ∷ A) h hd =
      ap (plus K (multiple K c (a ∷ r))) (combination-first m n d A h.1 hd.1)
      ∙ ap (λ p. K.add p (dot K (map (λ row. get_or row 0 0) A) d)
      ∷ plus K (multiple K c r) (combination K n d (map (λ row. drop 1 row) A))) (F.mul_comm c a)

  -- its rows combine to the image
  pub combination-transpose : (m n : ℕ) (A : List (List ℕ)) (z : List ℕ) → Matrix K m n A → Vector K n z
      → combination K m z (transpose n A) ≡ image_of K A z
  combination-transpose m zero A [] h hz = sym (nothing m A h)
    where
      nothing : (m : ℕ) (A : List (List ℕ)) → Matrix K m 0 A → image_of K A [] ≡ zeros m
      nothing zero [] h = refl
      nothing zero (r ∷ A) h = absurd h
      nothing (suc m) [] h = absurd h
      nothing (suc m) ([] ∷ A) h = ap (λ q. 0 ∷ q) (nothing m A h.1)
      nothing (suc m) ((a ∷ r) ∷ A) h = absurd h.0
  combination-transpose m zero A (c ∷ z) h hz = absurd hz
  combination-transpose m (suc n) A [] h hz = absurd hz
  combination-transpose m (suc n) A (c ∷ z) h hz =
      ap (plus K (multiple K c (map (λ row. get_or row 0 0) A)))
      (combination-transpose m n (map (λ row. drop 1 row) A) z (rest-matrix m n A h) hz.1)
      ∙ sym (image_of-first m n c z A h)

  -- it makes the combination of the rows
  pub image_of-transpose : (m n : ℕ) (A : List (List ℕ)) (d : List ℕ) → Matrix K m n A → Vector K m d
      → image_of K (transpose n A) d ≡ combination K n d A
  image_of-transpose m zero A d h hd = sym (nothing m d A h hd)
    where
      nothing : (m : ℕ) (d : List ℕ) (A : List (List ℕ)) → Matrix K m 0 A → Vector K m d → combination K 0 d A ≡ []
      nothing zero [] A h hd = refl
      nothing zero (c ∷ d) A h hd = absurd hd
      nothing (suc m) [] A h hd = absurd hd
      nothing (suc m) (c ∷ d) [] h hd = refl
      nothing (suc m) (c ∷ d) ([] ∷ A) h hd = refl
      nothing (suc m) (c ∷ d) ((a ∷ r) ∷ A) h hd = absurd h.0
  image_of-transpose m (suc n) A d h hd =
      ap (λ q. dot K (map (λ row. get_or row 0 0) A) d ∷ q)
      (image_of-transpose m n (map (λ row. drop 1 row) A) d (rest-matrix m n A h) hd)
      ∙ sym (combination-first m n d A h hd)

  -- the combination of sums
  pub combination-matrix_sum : (m n : ℕ) (cs : List ℕ) (A B : List (List ℕ)) → Matrix K m n A → Matrix K m n B
      → combination K n cs (matrix_sum K A B) ≡ plus K (combination K n cs A) (combination K n cs B)
  combination-matrix_sum m n [] A B ha hb = sym (zeros-plus-zeros K F n)
  combination-matrix_sum zero n (c ∷ cs) [] [] ha hb = sym (zeros-plus-zeros K F n)
  combination-matrix_sum zero n (c ∷ cs) (a ∷ A) B ha hb = absurd ha
  combination-matrix_sum zero n (c ∷ cs) [] (b ∷ B) ha hb = absurd hb
  combination-matrix_sum (suc m) n (c ∷ cs) [] B ha hb = absurd ha
  combination-matrix_sum (suc m) n (c ∷ cs) (a ∷ A) [] ha hb = absurd hb
  combination-matrix_sum (suc m) n (c ∷ cs) (a ∷ A) (b ∷ B) ha hb =
      ap₂ (plus K) (multiple-plus K F c a b) (combination-matrix_sum m n cs A B ha.1 hb.1)
      ∙ plus-cross K F (multiple K c a) (multiple K c b) (combination K n cs A) (combination K n cs B)

-- the row at j is the column at j
pub transpose-row : (n j : ℕ) (A : List (List ℕ)) → j < n
    → get_or (transpose n A) j [] ≡ map (λ row. get_or row j 0) A
transpose-row zero j A l = absurd (omega arith)
transpose-row (suc n) zero A l = refl
transpose-row (suc n) (suc j) A l = transpose-row n j (map (λ row. drop 1 row) A) (omega arith) ∙ later A
  where
    entry : (row : List ℕ) → get_or (drop 1 row) j 0 ≡ get_or row (suc j) 0
    entry [] = refl
    entry (a ∷ row) = refl

    later : (A : List (List ℕ)) → map (λ row. get_or row j 0) (map (λ row. drop 1 row) A)
        ≡ map (λ row. get_or row (suc j) 0) A
    later [] = refl
    later (row ∷ A) = ap₂ ◌∷◌ (entry row) (later A)

pub transpose-length : (n : ℕ) (A : List (List ℕ)) → length (transpose n A) ≡ n
transpose-length zero A = refl
transpose-length (suc n) A = ap suc (transpose-length n (map (λ row. drop 1 row) A))
