-- Rows of a matrix beside those of the identity, once they are cleared: the inverse, or a vector in the kernel.
use Rattle.std.proofs.Common.{◌≡◌, ◌⊎◌, inl, inr, ℕ, zero, suc, ◌+◌, ◌-◌, ◌*◌, ◌<◌, ◌≤◌, List, [], ◌∷◌, ◌++◌, length}
use Rattle.std.proofs.Common.{map, take, drop, get_or, All, refl, sym, ap, ap₂, ◌∙◌, subst, arith, append_assoc}
use Rattle.std.proofs.lemmas.Bool.{cases_lt}
use Rattle.std.proofs.lemmas.List.{take_at, drop_at, take-append-drop, drop_more, length-map, length-take-le}
use Rattle.std.proofs.lemmas.List.{get_or-map, get_or-take, get_or-drop, get_or-append-add, length-drop}
use Rattle.std.proofs.lemmas.List.Elements.{All-get_or}
use Rattle.dense_blocks.specs.Field.{Ops}
use Rattle.dense_blocks.specs.FieldLaws.{IsField}
use Rattle.dense_blocks.specs.Vectors.{zeros, plus, dot}
use Rattle.dense_blocks.specs.MatrixFacts.{negative, identity, IsInverse}
use Rattle.dense_blocks.specs.Matrices.{image_of, product}
use Rattle.dense_blocks.specs.Columns.{Annihilate, unit, StartUnits, HasUnitColumns, HasNoPivot, beside, kernel_vector}
use Rattle.dense_blocks.specs.Inverses.{InKernel}
use Rattle.dense_blocks.proofs.ScalarLaws.{zero_below, one_below, zero_add, zero_mul, one_mul, neg_add}
use Rattle.dense_blocks.proofs.Shapes.{Vector, Matrix, to_vector, from_vector, vector_of, vector-size, vector-scalars}
use Rattle.dense_blocks.proofs.Shapes.{to_matrix, from_matrix, matrix-size, append-vector, row-vector}
use Rattle.dense_blocks.proofs.VectorLaws.{zeros-append, zeros-vector, negative-vector, plus-zeros, plus-comm}
use Rattle.dense_blocks.proofs.VectorLaws.{plus-negative, negative-plus, same-by-difference, dot-append, dot-below}
use Rattle.dense_blocks.proofs.VectorLaws.{dot-zeros, zeros-dot}
use Rattle.dense_blocks.proofs.MatrixLaws.{identity-matrix, product-matrix, product-image_of, identity-image_of}
use Rattle.dense_blocks.proofs.MatrixLaws.{image_of-vector, image_of-negative, image_of-zeros, matrix-ext}
use Rattle.dense_blocks.proofs.MatrixLaws.{inverse-image_of}
use Rattle.dense_blocks.proofs.Reductions.{zeros-at}
use Rattle.dense_blocks.proofs.Leading.{take-vector}
use Rattle.dense_blocks.proofs.ClearingLaws.{units-at, unit-past}

-- rows side by side, and their halves
pub beside-matrix : (K : Ops) (m k n : ℕ) (A B : List (List ℕ)) → Matrix K m k A → Matrix K m n B
    → Matrix K m (k + n) (beside A B)
beside-matrix K zero k n [] B ha hb = tt
beside-matrix K zero k n (a ∷ A) B ha hb = absurd ha
beside-matrix K (suc m) k n [] B ha hb = absurd ha
beside-matrix K (suc m) k n (a ∷ A) [] ha hb = absurd hb
beside-matrix K (suc m) k n (a ∷ A) (b ∷ B) ha hb =
    (append-vector K k n a b ha.0 hb.0, beside-matrix K m k n A B ha.1 hb.1)

left-beside : (K : Ops) (m k n : ℕ) (A B : List (List ℕ)) → Matrix K m k A → Matrix K m n B → map (take k) (beside A B)
    ≡ A
left-beside K zero k n [] B ha hb = refl
left-beside K zero k n (a ∷ A) B ha hb = absurd ha
left-beside K (suc m) k n [] B ha hb = absurd ha
left-beside K (suc m) k n (a ∷ A) [] ha hb = absurd hb
left-beside K (suc m) k n (a ∷ A) (b ∷ B) ha hb = ap₂ ◌∷◌ (take_at a b k (vector-size K k a ha.0))
    (left-beside K m k n A B ha.1 hb.1)

right-beside : (K : Ops) (m k n : ℕ) (A B : List (List ℕ)) → Matrix K m k A → Matrix K m n B → map (drop k) (beside A B)
    ≡ B
right-beside K zero k n [] [] ha hb = refl
right-beside K zero k n [] (b ∷ B) ha hb = absurd hb
right-beside K zero k n (a ∷ A) B ha hb = absurd ha
right-beside K (suc m) k n [] B ha hb = absurd ha
right-beside K (suc m) k n (a ∷ A) [] ha hb = absurd hb
right-beside K (suc m) k n (a ∷ A) (b ∷ B) ha hb = ap₂ ◌∷◌ (drop_at a b k (vector-size K k a ha.0))
    (right-beside K m k n A B ha.1 hb.1)

drop-vector : (K : Ops) (k n : ℕ) (v : List ℕ) → Vector K (k + n) v → Vector K n (drop k v)
drop-vector K zero n v h = let none : zero + n ≡ n = omega arith in subst (λ t. Vector K t v) none h
drop-vector K (suc k) n [] h = let more : suc k + n ≡ suc (k + n) = omega arith in
    absurd (subst (λ t. Vector K t []) more h)
drop-vector K (suc k) n (a ∷ v) h = let more : suc k + n ≡ suc (k + n) = omega arith in
    drop-vector K k n v (subst (λ t. Vector K t (a ∷ v)) more h).1

right-matrix : (K : Ops) (m k n : ℕ) (M : List (List ℕ)) → Matrix K m (k + n) M → Matrix K m n (map (drop k) M)
right-matrix K zero k n [] h = tt
right-matrix K zero k n (r ∷ M) h = absurd h
right-matrix K (suc m) k n [] h = absurd h
right-matrix K (suc m) k n (r ∷ M) h = (drop-vector K k n r h.0, right-matrix K m k n M h.1)

-- the unit vectors from i on
units : ℕ → ℕ → ℕ → List (List ℕ)
units n i zero = []
units n i (suc m) = unit n i ∷ units n (suc i) m

units-shifted : (n i m : ℕ) → units (suc n) (suc i) m ≡ map (λ row. 0 ∷ row) (units n i m)
unfolding units
units-shifted n i zero = refl
units-shifted n i (suc m) = ap (λ t. (0 ∷ unit n i) ∷ t) (units-shifted n (suc i) m)

identity-units : (n : ℕ) → identity n ≡ units n 0 n
unfolding units
identity-units zero = refl
identity-units (suc n) = ap (λ t. (1 ∷ zeros n) ∷ t) (ap (map (λ row. 0 ∷ row)) (identity-units n)
    ∙ sym (units-shifted n 0 n))

start-units : (n i m : ℕ) (M : List (List ℕ)) → length M ≡ m → StartUnits n i M → map (take n) M ≡ units n i m
unfolding units
start-units n i zero [] e h = refl
start-units n i zero (r ∷ M) e h = absurd (omega arith)
start-units n i (suc m) [] e h = absurd (omega arith)
start-units n i (suc m) (r ∷ M) e h = ap₂ ◌∷◌ h.0 (start-units n (suc i) m M (omega arith) h.1)

-- rows that kill x give zero at x
pub kills-image_of : (K : Ops) (M : List (List ℕ)) (x : List ℕ) (m : ℕ) → length M ≡ m → Annihilate K M x
    → image_of K M x ≡ zeros m
kills-image_of K [] x zero e h = refl
kills-image_of K [] x (suc m) e h = absurd (omega arith)
kills-image_of K (r ∷ M) x zero e h = absurd (omega arith)
kills-image_of K (r ∷ M) x (suc m) e h = ap₂ ◌∷◌ h.0 (kills-image_of K M x m (omega arith) h.1)

image_of-kills : (K : Ops) (M : List (List ℕ)) (x : List ℕ) (m : ℕ) → length M ≡ m → image_of K M x ≡ zeros m
    → Annihilate K M x
image_of-kills K [] x m e h = tt
image_of-kills K (r ∷ M) x zero e h = absurd (omega arith)
image_of-kills K (r ∷ M) x (suc m) e h = (
  first (dot K r x) 0 (image_of K M x) (zeros m) h,
  image_of-kills K M x m (omega arith)
      (rest (dot K r x) 0 (image_of K M x) (zeros m) h),
)
  where
    first : (a b : ℕ) (u v : List ℕ) → ◌≡◌ {A = List ℕ} (a ∷ u) (b ∷ v) → a ≡ b
    first a b u v e = cc

    rest : (a b : ℕ) (u v : List ℕ) → ◌≡◌ {A = List ℕ} (a ∷ u) (b ∷ v) → u ≡ v
    rest a b u v e = cc

each-kills : (K : Ops) (M : List (List ℕ)) (x : List ℕ) → ((i : ℕ) → i < length M → dot K (get_or M i []) x ≡ 0)
    → Annihilate K M x
each-kills K [] x h = tt
each-kills K (r ∷ M) x h = (h 0 (omega arith), each-kills K M x (λ i l. h (suc i) (omega arith)))

module _ (K : Ops) (h : IsField K) where
  image_of-halves : (m k n : ℕ) (M : List (List ℕ)) (u v : List ℕ) → Matrix K m (k + n) M → length u ≡ k
      → image_of K M (u ++ v) ≡ plus K (image_of K (map (take k) M) u) (image_of K (map (drop k) M) v)
  image_of-halves zero k n [] u v hm e = refl
  image_of-halves zero k n (r ∷ M) u v hm e = absurd hm
  image_of-halves (suc m) k n [] u v hm e = absurd hm
  image_of-halves (suc m) k n (r ∷ M) u v hm e =
      ap₂ ◌∷◌
      (ap (λ t. dot K t (u ++ v)) (sym (take-append-drop k r))
      ∙ dot-append K h (take k r) u (drop k r) v
      (vector-size K k (take k r) (take-vector K (k + n) k r hm.0 (omega arith)) ∙ sym e))
      (image_of-halves m k n M u v hm.1 e)

  -- a unit vector picks a coordinate
  unit-dot : (n i : ℕ) (c : List ℕ) → Vector K n c → dot K (unit n i) c ≡ get_or c i 0
  unit-dot zero i [] hc = refl
  unit-dot zero i (x ∷ c) hc = absurd hc
  unit-dot (suc n) i [] hc = absurd hc
  unit-dot (suc n) zero (x ∷ c) hc = ap₂ K.add (one_mul K h x hc.0) (zeros-dot K h n c) ∙ h.add_zero x hc.0
  unit-dot (suc n) (suc i) (x ∷ c) hc =
      ap (λ t. K.add t (dot K (unit n i) c)) (zero_mul K h x)
      ∙ zero_add K h (dot K (unit n i) c) (dot-below K h (unit n i) c) ∙ unit-dot n i c hc.1

  module _ (n : ℕ) (A : List (List ℕ)) (ha : Matrix K n n A) where
    double : n + n ≡ 2 * n
    double = omega arith

    joined : Matrix K n (n + n) (beside A (identity n))
    joined = beside-matrix K n n n A (identity n) ha (identity-matrix K h n)

    -- what the joined rows do, before
    joined-image_of : (u v : List ℕ) → Vector K n u → Vector K n v → image_of K (beside A (identity n)) (u ++ v)
        ≡ plus K (image_of K A u) v
    joined-image_of u v hu hv =
        image_of-halves n n n (beside A (identity n)) u v joined (vector-size K n u hu)
        ∙ ap₂ (λ L R. plus K (image_of K L u) (image_of K R v))
        (left-beside K n n n A (identity n) ha (identity-matrix K h n))
        (right-beside K n n n A (identity n) ha (identity-matrix K h n))
        ∙ ap (plus K (image_of K A u)) (identity-image_of K h n v hv)

    module _ (M : List (List ℕ)) (cleared : HasUnitColumns K n n (beside A (identity n)) M) where
      rows : Matrix K n (n + n) M
      rows = subst (λ w. Matrix K n w M) (sym double) (to_matrix K n (2 * n) M cleared.matrix)

      inverse-matrix : Matrix K n n (map (drop n) M)
      inverse-matrix = right-matrix K n n n M rows

      -- and after
      cleared-image_of : (u v : List ℕ) → Vector K n u → image_of K M (u ++ v)
          ≡ plus K u (image_of K (map (drop n) M) v)
      cleared-image_of u v hu =
          image_of-halves n n n M u v rows (vector-size K n u hu)
          ∙ ap (λ t. plus K t (image_of K (map (drop n) M) v))
          (ap (λ L. image_of K L u) (start-units n 0 n M (matrix-size K n (n + n) M rows) cleared.units
          ∙ sym (identity-units n)) ∙ identity-image_of K h n u hu)

      forth : (u v : List ℕ) → Vector K n u → Vector K n v → plus K (image_of K A u) v ≡ zeros n
          → plus K u (image_of K (map (drop n) M) v) ≡ zeros n
      forth u v hu hv e =
          sym (cleared-image_of u v hu)
          ∙ kills-image_of K M (u ++ v) n (matrix-size K n (n + n) M rows)
          (cleared.there (u ++ v) (image_of-kills K (beside A (identity n)) (u ++ v) n
          (matrix-size K n (n + n) (beside A (identity n)) joined) (joined-image_of u v hu hv ∙ e)))

      back : (u v : List ℕ) → Vector K n u → Vector K n v → plus K u (image_of K (map (drop n) M) v) ≡ zeros n
          → plus K (image_of K A u) v ≡ zeros n
      back u v hu hv e =
          sym (joined-image_of u v hu hv)
          ∙ kills-image_of K (beside A (identity n)) (u ++ v) n (matrix-size K n (n + n) (beside A (identity n)) joined)
          (cleared.back (u ++ v) (image_of-kills K M (u ++ v) n (matrix-size K n (n + n) M rows)
          (cleared-image_of u v hu ∙ e)))

      left-acts : (v : List ℕ) → Vector K n v → v ≡ image_of K (map (drop n) M) (image_of K A v)
      left-acts v hv =
          let B : List (List ℕ) = map (drop n) M in
          let w : List ℕ = image_of K A v in
          let hw : Vector K n w = image_of-vector K h n n A v ha in
          same-by-difference K h n v (image_of K B w) hv (image_of-vector K h n n B w inverse-matrix)
          (ap (plus K v) (sym (image_of-negative K h B w))
          ∙ forth v (negative K w) hv (negative-vector K h n w hw) (plus-negative K h n w hw))

      right-acts : (v : List ℕ) → Vector K n v → v ≡ image_of K A (image_of K (map (drop n) M) v)
      right-acts v hv =
          let w : List ℕ = image_of K (map (drop n) M) v in
          let hw : Vector K n w = image_of-vector K h n n (map (drop n) M) v inverse-matrix in
          same-by-difference K h n v (image_of K A w) hv (image_of-vector K h n n A w ha)
          (plus-comm K h v (negative K (image_of K A w)) ∙ ap (λ t. plus K t v) (sym (image_of-negative K h A w))
          ∙ back (negative K w) v (negative-vector K h n w hw) hv (negative-plus K h n w hw))

      pub cleared-inverse : IsInverse K n A (map (drop n) M)
      cleared-inverse =
          let B : List (List ℕ) = map (drop n) M in
          let one : Matrix K n n (identity n) = identity-matrix K h n in
          record {
            shape = from_matrix K n n B inverse-matrix;
            left = matrix-ext K h n n (product K n B A) (identity n) (product-matrix K h n n n B A inverse-matrix ha)
                one
                (λ v hv. product-image_of K h n n B A v ha ∙ sym (left-acts v hv) ∙ sym (identity-image_of K h n v hv));
            right = matrix-ext K h n n (product K n A B) (identity n) (product-matrix K h n n n A B ha inverse-matrix)
                one
                (λ v hv. product-image_of K h n n A B v inverse-matrix ∙ sym (right-acts v hv)
                ∙ sym (identity-image_of K h n v hv));
          }

    module _ (j : ℕ) (M : List (List ℕ)) (stuck : HasNoPivot K n j (beside A (identity n)) M) where
      stuck-rows : Matrix K n (2 * n) M
      stuck-rows = to_matrix K n (2 * n) M stuck.so_far.matrix

      -- the entries above the diagonal, negated
      above : List ℕ
      above = map (λ row. K.neg (get_or row j 0)) (take j M)

      above-size : length above ≡ j
      unfolding above
      above-size = length-map (take j M) (λ row. K.neg (get_or row j 0))
          ∙ length-take-le j M (omega (arith, matrix-size K n (2 * n) M stuck-rows, stuck.inside))

      above-vector : Vector K j above
      unfolding above
      above-vector = vector_of K j (map (λ row. K.neg (get_or row j 0)) (take j M)) above-size (negated (take j M))
        where
          negated : (L : List (List ℕ)) → All (λ a. a < K.order) (map (λ row. K.neg (get_or row j 0)) L)
          negated [] k d l = absurd (omega arith)
          negated (r ∷ L) zero d l = h.neg_below (get_or r j 0)
          negated (r ∷ L) (suc k) d l = negated L k d (omega arith)

      tail : ℕ
      tail = n - 1 - j

      -- a row at the vector
      row-at : (r : List ℕ) → Vector K (2 * n) r → dot K r ((above ++ 1 ∷ zeros (n - 1 - j)) ++ zeros n)
          ≡ K.add (dot K (take j r) above) (get_or r j 0)
      row-at r hr =
          let a : ℕ = get_or r j 0 in
          let later : List ℕ = drop (j + 1) r in
          let t : List ℕ = zeros (n - 1 - j) ++ zeros n in
          let size : length r ≡ 2 * n = vector-size K (2 * n) r hr in
          let prefix : length (take j r) ≡ length above =
          vector-size K j (take j r) (take-vector K (2 * n) j r hr (omega (arith, stuck.inside)))
          ∙ sym above-size in
          let low : a < K.order = All-get_or (λ b. b < K.order) r j 0 (omega (arith, size, stuck.inside))
          (vector-scalars K (2 * n) r hr) in
          ap₂ (dot K) (sym (take-append-drop j r)
          ∙ ap (λ s. take j r ++ s) (drop_more r j 0 (omega (arith, size, stuck.inside))))
          (append_assoc above (1 ∷ zeros (n - 1 - j)) (zeros n))
          ∙ dot-append K h (take j r) above (a ∷ later) (1 ∷ t) prefix
          ∙ ap (K.add (dot K (take j r) above))
          (ap₂ K.add (h.mul_one a low) (ap (dot K later) (sym (zeros-append (n - 1 - j) n))
          ∙ dot-zeros K h ((n - 1 - j) + n) later) ∙ h.add_zero a low)

      each-row : (i : ℕ) → i < n → (i < j) ⊎ (j ≤ i)
          → dot K (get_or M i []) ((above ++ 1 ∷ zeros (n - 1 - j)) ++ zeros n) ≡ 0
      unfolding above
      each-row i l (inl low) =
          let r : List ℕ = get_or M i [] in
          let a : ℕ = get_or r j 0 in
          let in_M : i < length M = omega (arith, matrix-size K n (2 * n) M stuck-rows) in
          row-at r (row-vector K n (2 * n) M i stuck-rows l)
          ∙ ap (λ t. K.add t a)
          (ap (λ t. dot K t above) (units-at j 0 i M stuck.so_far.units in_M ∙ ap (unit j) (omega arith))
          ∙ unit-dot j i above above-vector
          ∙ get_or-map (λ row. K.neg (get_or row j 0)) (take j M) i [] 0
          (omega (
            arith,
            length-take-le j M (omega (arith, in_M)),
            stuck.inside,
            matrix-size K n (2 * n) M stuck-rows,
          ))
          ∙ ap (λ s. K.neg (get_or s j 0)) (get_or-take j M i [] low))
          ∙ neg_add K h a
      each-row i l (inr high) =
          let r : List ℕ = get_or M i [] in
          let in_M : i < length M = omega (arith, matrix-size K n (2 * n) M stuck-rows) in
          let place : j + (i - j) ≡ i = omega arith in
          let none : get_or r j 0 ≡ 0 =
          ap (λ s. get_or s j 0) (sym (get_or-drop j M (i - j) [] ∙ ap (λ k. get_or M k []) place))
          ∙ stuck.zero (i - j) [] (omega (arith, length-drop j M)) in
          row-at r (row-vector K n (2 * n) M i stuck-rows l)
          ∙ ap₂ K.add
          (ap (λ t. dot K t above) (units-at j 0 i M stuck.so_far.units in_M ∙ unit-past j (0 + i) (omega arith))
          ∙ zeros-dot K h j above)
          none
          ∙ h.add_zero 0 (zero_below K h)

      pub stuck-kernel : InKernel K n A (kernel_vector K n j M)
      unfolding above
      stuck-kernel =
          let v : List ℕ = above ++ 1 ∷ zeros (n - 1 - j) in
          let size : j + suc (n - 1 - j) ≡ n = omega (arith, stuck.inside) in
          let hv : Vector K n v = subst (λ k. Vector K k v) size
          (append-vector K j (suc (n - 1 - j)) above (1 ∷ zeros (n - 1 - j)) above-vector
          (one_below K h, zeros-vector K h (n - 1 - j))) in
          let one : get_or v j 0 ≡ 1 =
          ap (λ k. get_or v k 0) (sym above-size ∙ omega arith) ∙ get_or-append-add above (1 ∷ zeros (n - 1 - j)) 0 0 in
          let before : List (List ℕ) = beside A (identity n) in
          record {
            vector = from_vector K n v hv;
            not_zero = λ e.
                let same : ◌≡◌ {A = ℕ} 1 0 = sym one ∙ ap (λ t. get_or t j 0) e ∙ zeros-at K h n j in
                omega arith;
            zero =
                sym (plus-zeros K h n (image_of K A v) (image_of-vector K h n n A v ha))
                ∙ sym (joined-image_of v (zeros n) hv (zeros-vector K h n))
                ∙ kills-image_of K before (v ++ zeros n) n (matrix-size K n (n + n) before joined)
                (stuck.so_far.back (v ++ zeros n)
                (each-kills K M (v ++ zeros n) (λ i l. each-row i (omega (arith, matrix-size K n (2 * n) M stuck-rows))
                (cases_lt i j))));
          }

    -- a matrix with a vector in its kernel has no inverse
    pub kernel-no_inverse : (v : List ℕ) (B : List (List ℕ)) → InKernel K n A v → IsInverse K n A B → ⊥
    kernel-no_inverse v B kernel inverse =
        kernel.not_zero
        (sym (inverse-image_of K h n A B v ha inverse (to_vector K n v kernel.vector))
        ∙ ap (image_of K B) kernel.zero ∙ image_of-zeros K h n n n B (to_matrix K n n B inverse.shape))
