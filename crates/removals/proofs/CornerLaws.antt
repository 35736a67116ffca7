-- The matrices of a block complex, and of what is left of it without a pair of cells.
use Rattle.std.proofs.Common.{◌≡◌, ℕ, Bool, true, false, cond, not, ◌||◌, ◌&&◌, refl, sym, ap, ap₂, ◌∙◌, subst, arith}
use Rattle.std.proofs.Common.{◌⊎◌, inl, inr, List, [], ◌∷◌, filter, eqb, Option, None}
use Rattle.std.proofs.lemmas.Bool.{eq-eqb, ne_eqb, cases_eq}
use Rattle.dense_blocks.specs.Field.{Ops}
use Rattle.dense_blocks.specs.FieldLaws.{IsField}
use Rattle.dense_blocks.specs.Vectors.{plus}
use Rattle.dense_blocks.specs.MatrixFacts.{negative, zero_matrix, matrix_sum, matrix_negative}
use Rattle.dense_blocks.specs.Matrices.{image_of, product}
use Rattle.dense_blocks.proofs.Shapes.{Matrix, to_matrix}
use Rattle.dense_blocks.proofs.MatrixLaws.{matrix_sum-matrix, matrix_negative-matrix, product-matrix}
use Rattle.dense_blocks.proofs.MatrixLaws.{matrix_sum-zero_matrix, matrix_negative-zero_matrix, product-zero_matrix}
use Rattle.dense_blocks.proofs.MatrixLaws.{zero_matrix-product, matrix_sum-image_of, matrix_negative-image_of}
use Rattle.dense_blocks.proofs.MatrixLaws.{product-image_of}
use Rattle.rising_lists.specs.Rising.{has}
use Rattle.block_complexes.specs.BlockComplexes.{BlockComplex, AreConsecutive, cells, of_cell, degree_of, size_of}
use Rattle.block_complexes.proofs.FullLaws.{IsFull}
use Rattle.removals.specs.Removals.{corner, is_corner, live_without, IsRemoval}
use Rattle.block_complexes.proofs.Sums.{is_other}

-- a corner of which one block is zero stays
module _ (K : Ops) (F : IsField K) (l m k n : ℕ) (A C a B : List (List ℕ)) (hA : Matrix K l n A) (ha : Matrix K m k a)
  where
    pub corner-without-row : Matrix K l m C → B ≡ zero_matrix k n
        → matrix_sum K A (matrix_negative K (product K n C (product K n a B))) ≡ A
    corner-without-row hC e =
        ap (λ t. matrix_sum K A (matrix_negative K t)) (ap (λ t. product K n C (product K n a t)) e
        ∙ ap (product K n C) (product-zero_matrix K F m k n a ha) ∙ product-zero_matrix K F l m n C hC)
        ∙ ap (matrix_sum K A) (matrix_negative-zero_matrix K F l n) ∙ matrix_sum-zero_matrix K F l n A hA

    pub corner-without-column : C ≡ zero_matrix l m → Matrix K k n B
        → matrix_sum K A (matrix_negative K (product K n C (product K n a B))) ≡ A
    corner-without-column e hB =
        ap (λ t. matrix_sum K A (matrix_negative K t)) (ap (λ t. product K n t (product K n a B)) e
        ∙ zero_matrix-product K F l m n (product K n a B) (product-matrix K F m k n a B ha hB))
        ∙ ap (matrix_sum K A) (matrix_negative-zero_matrix K F l n) ∙ matrix_sum-zero_matrix K F l n A hA

-- the cells that are left
module _ (x y : ℕ) where
  pub cells-without : (live : List (ℕ × ℕ × ℕ)) → cells (live_without live x y) ≡ filter (is_other x y) (cells live)
  cells-without [] = refl
  cells-without (l ∷ ls) = go (is_other x y l.0) (cells-without ls)
    where
      go : (b : Bool) → cells (live_without ls x y) ≡ filter (is_other x y) (cells ls)
          → cells (cond b (l ∷ live_without ls x y) (live_without ls x y))
          ≡ cond b (l.0 ∷ filter (is_other x y) (cells ls)) (filter (is_other x y) (cells ls))
      go true e = ap (λ ks. l.0 ∷ ks) e
      go false e = e

  -- one cell after the other
  pub without-twice : (live : List (ℕ × ℕ × ℕ)) → filter (λ l. not (eqb l.0 y)) (filter (λ l. not (eqb l.0 x)) live)
      ≡ live_without live x y
  without-twice [] = refl
  without-twice (l ∷ ls) = go (eqb l.0 x) (without-twice ls)
    where
      once : List (ℕ × ℕ × ℕ)
      once = filter (λ l. not (eqb l.0 x)) ls

      go : (b : Bool) → filter (λ l. not (eqb l.0 y)) once ≡ live_without ls x y
          → filter (λ l. not (eqb l.0 y)) (cond (not b) (l ∷ once) once) ≡ cond (not (b || eqb l.0 y))
          (l ∷ live_without ls x y) (live_without ls x y)
      go true e = e
      go false e = ap (λ ls. cond (not (eqb l.0 y)) (l ∷ ls) ls) e

  -- what stands between two other cells stays
  pub spared : {A : Type 0} (s t : ℕ) (h : Option A) → is_other x y s ≡ true → is_other x y t ≡ true
      → cond (eqb s y || eqb t y) None (cond (eqb s x || eqb t x) None h) ≡ h
  spared {A} s t h = go (eqb s x) (eqb s y) (eqb t x) (eqb t y)
    where
      go : (p q r u : Bool) → not (p || q) ≡ true → not (r || u) ≡ true → cond (q || u) None (cond (p || r) None h) ≡ h
      go true q r u e f = cc
      go false true r u e f = cc
      go false false true u e f = cc
      go false false false true e f = cc
      go false false false false e f = refl

  -- a cell that is left was live, is neither of the two, and has the numbers that it had
  pub has-without : (live : List (ℕ × ℕ × ℕ)) (c : ℕ) → has c (cells (live_without live x y)) ≡ true
      → (has c (cells live) ≡ true) × (is_other x y c ≡ true)
  has-without [] c h = cc
  has-without (l ∷ ls) c h = go (is_other x y l.0) (cases_eq l.0 c) refl h (has-without ls c)
    where
      later : (b : Bool) → (b || true) ≡ true
      later true = refl
      later false = refl

      go : (b : Bool) → (l.0 ≡ c) ⊎ (l.0 ≡ c → ⊥) → is_other x y l.0 ≡ b
          → has c (cells (cond b (l ∷ live_without ls x y) (live_without ls x y))) ≡ true
          → (has c (cells (live_without ls x y)) ≡ true → (has c (cells ls) ≡ true) × (is_other x y c ≡ true))
          → ((eqb l.0 c || has c (cells ls)) ≡ true) × (is_other x y c ≡ true)
      go true (inl e) f m rest = (ap (λ b. b || has c (cells ls)) (eq-eqb l.0 c e), ap (is_other x y) (sym e) ∙ f)
      go true (inr n) f m rest =
          let r = rest (sym (ap (λ b. b || has c (cells (live_without ls x y))) (ne_eqb l.0 c n)) ∙ m) in
          (ap (λ b. eqb l.0 c || b) r.0 ∙ later (eqb l.0 c), r.1)
      go false d f m rest = let r = rest m in (ap (λ b. eqb l.0 c || b) r.0 ∙ later (eqb l.0 c), r.1)

  pub of_cell-without : (number : ℕ × ℕ × ℕ → ℕ) (live : List (ℕ × ℕ × ℕ)) (c : ℕ) → is_other x y c ≡ true
      → of_cell number (live_without live x y) c ≡ of_cell number live c
  of_cell-without number [] c h = refl
  of_cell-without number (l ∷ ls) c h = go (is_other x y l.0) (cases_eq l.0 c) refl (of_cell-without number ls c h)
    where
      go : (b : Bool) → (l.0 ≡ c) ⊎ (l.0 ≡ c → ⊥) → is_other x y l.0 ≡ b → of_cell number (live_without ls x y) c
          ≡ of_cell number ls c
          → of_cell number (cond b (l ∷ live_without ls x y) (live_without ls x y)) c ≡ cond (eqb l.0 c) (number l)
          (of_cell number ls c)
      go true d f rest = ap (cond (eqb l.0 c) (number l)) rest
      go false (inl e) f rest = let bad : false ≡ true = sym f ∙ ap (is_other x y) e ∙ h in cc
      go false (inr n) f rest = rw (ne_eqb l.0 c n) rest

-- the matrices of a full block complex
module _ (K : Ops) (F : IsField K) (v : BlockComplex) (full : IsFull K v) where
  abbrev size : ℕ → ℕ
  size c = size_of v.live c

  -- M(s, t) - M(x, t) a M(s, y)
  module _ (x y : ℕ) (a : List (List ℕ)) (a-shape : Matrix K (size x) (size y) a) where
    pub corner-shape : (s t : ℕ) → Matrix K (size t) (size s) (corner K v x y a s t)
    corner-shape s t =
        let taken = product K (size s) (v.matrix x t) (product K (size s) a (v.matrix s y)) in
        matrix_sum-matrix K F (size t) (size s) (v.matrix s t) (matrix_negative K taken) (full.shape s t)
        (matrix_negative-matrix K F (size t) (size s) taken
        (product-matrix K F (size t) (size x) (size s) (v.matrix x t) (product K (size s) a (v.matrix s y))
        (full.shape x t)
        (product-matrix K F (size x) (size y) (size s) a (v.matrix s y) a-shape (full.shape s y))))

    pub corner-zero_row : (s t : ℕ) → v.matrix s y ≡ zero_matrix (size y) (size s) → corner K v x y a s t ≡ v.matrix s t
    corner-zero_row s t = corner-without-row K F (size t) (size x) (size y) (size s) (v.matrix s t) (v.matrix x t) a
        (v.matrix s y) (full.shape s t) a-shape (full.shape x t)

    pub corner-zero_column : (s t : ℕ) → v.matrix x t ≡ zero_matrix (size t) (size x) → corner K v x y a s t
        ≡ v.matrix s t
    corner-zero_column s t e =
        corner-without-column K F (size t) (size x) (size y) (size s) (v.matrix s t) (v.matrix x t) a (v.matrix s y)
        (full.shape s t) a-shape e (full.shape s y)

    -- it is M(s, t) at each pair that is no corner
    pub no-corner : AreConsecutive v.live x y → (s t : ℕ) → is_corner v.live x y s t ≡ false → corner K v x y a s t
        ≡ v.matrix s t
    no-corner pair s t e = go (cases_eq (degree_of v.live s) (degree_of v.live x))
        (cases_eq (degree_of v.live t) (degree_of v.live y))
      where
        go : (degree_of v.live s ≡ degree_of v.live x) ⊎ (degree_of v.live s ≡ degree_of v.live x → ⊥)
            → (degree_of v.live t ≡ degree_of v.live y) ⊎ (degree_of v.live t ≡ degree_of v.live y → ⊥)
            → corner K v x y a s t ≡ v.matrix s t
        go (inl p) (inl q) =
            let bad : true ≡ false = sym (ap₂ ◌&&◌ (eq-eqb (degree_of v.live s) (degree_of v.live x) p)
            (eq-eqb (degree_of v.live t) (degree_of v.live y) q)) ∙ e in cc
        go (inl p) (inr q) = corner-zero_column s t (full.apart x t (λ d. q (d ∙ sym pair.degrees)))
        go (inr p) d = corner-zero_row s t (full.apart s y (λ up. p (omega (arith, up, pair.degrees))))

    pub corner-image_of : (s t : ℕ) (z : List ℕ) → image_of K (corner K v x y a s t) z
        ≡ plus K (image_of K (v.matrix s t) z)
        (negative K (image_of K (v.matrix x t) (image_of K a (image_of K (v.matrix s y) z))))
    corner-image_of s t z =
        let n = size s in
        let back = product K n a (v.matrix s y) in
        let back-shape : Matrix K (size x) n back = product-matrix K F (size x) (size y) n a (v.matrix s y) a-shape
        (full.shape s y) in
        let away = product K n (v.matrix x t) back in
        let away-shape : Matrix K (size t) n away = product-matrix K F (size t) (size x) n (v.matrix x t) back
        (full.shape x t) back-shape in
        matrix_sum-image_of K F (size t) n (v.matrix s t) (matrix_negative K away) z (full.shape s t)
        (matrix_negative-matrix K F (size t) n away away-shape)
        ∙ ap (plus K (image_of K (v.matrix s t) z))
        (matrix_negative-image_of K F away z
        ∙ ap (negative K) (product-image_of K F (size x) n (v.matrix x t) back z back-shape
        ∙ ap (image_of K (v.matrix x t)) (product-image_of K F (size y) n a (v.matrix s y) z (full.shape s y))))

  -- after a removal that stands at each pair that is left
  module _ (x y : ℕ) (a : List (List ℕ)) (w : BlockComplex) (removal : IsRemoval K v x y a w) where
    pub inverse-shape : Matrix K (size x) (size y) a
    inverse-shape = subst (λ n. Matrix K (size x) n a) (sym removal.square)
        (to_matrix K (size x) (size x) a removal.inverse.shape)

    pub matrix-left : (s t : ℕ) → has s (cells w.live) ≡ true → has t (cells w.live) ≡ true
        → w.matrix s t ≡ corner K v x y a s t
    matrix-left s t hs ht = removal.matrices s t (record { from = hs; to = ht }) ∙ go (is_corner v.live x y s t) refl
      where
        go : (b : Bool) → is_corner v.live x y s t ≡ b → cond b (corner K v x y a s t) (v.matrix s t)
            ≡ corner K v x y a s t
        go true e = refl
        go false e = sym (no-corner x y a inverse-shape removal.pair s t e)

    pub left-shape : (s t : ℕ) → has s (cells w.live) ≡ true → has t (cells w.live) ≡ true
        → Matrix K (size t) (size s) (w.matrix s t)
    left-shape s t hs ht = subst (Matrix K (size t) (size s)) (sym (matrix-left s t hs ht))
        (corner-shape x y a inverse-shape s t)

    pub left-image_of : (s t : ℕ) (z : List ℕ) → has s (cells w.live) ≡ true → has t (cells w.live) ≡ true
        → image_of K (w.matrix s t) z ≡ plus K (image_of K (v.matrix s t) z)
        (negative K (image_of K (v.matrix x t) (image_of K a (image_of K (v.matrix s y) z))))
    left-image_of s t z hs ht = ap (λ A. image_of K A z) (matrix-left s t hs ht)
        ∙ corner-image_of x y a inverse-shape s t z
