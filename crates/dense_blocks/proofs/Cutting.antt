-- Matrices and their entries in one list, row by row.
use Rattle.std.proofs.Common.{◌≡◌, ℕ, zero, suc, ◌+◌, ◌-◌, ◌*◌, ◌<◌, List, [], ◌∷◌, ◌++◌, length, map, take, drop}
use Rattle.std.proofs.Common.{get_or, refl, sym, ap, ap₂, ◌∙◌, arith, length-append, length-drop, append_assoc}
use Rattle.std.proofs.lemmas.List.{append-nil, take_at, drop_at, take-append-drop, length-take-le, drop-drop, take-map}
use Rattle.std.proofs.lemmas.List.{drop-map, take_all, take_more}
use Rattle.std.proofs.lemmas.List.Elements.{All-append, All-nil, All-take, All-drop}
use Rattle.dense_blocks.specs.Field.{Ops}
use Rattle.dense_blocks.specs.Vectors.{AllScalars, zeros, plus}
use Rattle.dense_blocks.specs.MatrixFacts.{negative, identity, zero_matrix, matrix_sum, matrix_negative}
use Rattle.dense_blocks.specs.Matrices.{cut}
use Rattle.dense_blocks.proofs.Shapes.{Matrix, vector_of, vector-size, vector-scalars}
use Rattle.dense_blocks.proofs.VectorLaws.{zeros-append, zeros-size}

-- the entries of a matrix, row by row
abbrev pub flat : List (List ℕ) → List ℕ
flat [] = []
flat (r ∷ A) = r ++ flat A

pub flat-append : (A B : List (List ℕ)) → flat (A ++ B) ≡ flat A ++ flat B
flat-append [] B = refl
flat-append (r ∷ A) B = ap (λ t. r ++ t) (flat-append A B) ∙ sym (append_assoc r (flat A) (flat B))

-- m rows of n numbers, whatever they are
abbrev pub Sized : ℕ → ℕ → List (List ℕ) → Type 0
Sized zero n [] = Unit {0}
Sized zero n (r ∷ A) = ⊥
Sized (suc m) n [] = ⊥
Sized (suc m) n (r ∷ A) = (length r ≡ n) × Sized m n A

pub matrix-sized : (K : Ops) (m n : ℕ) (A : List (List ℕ)) → Matrix K m n A → Sized m n A
matrix-sized K zero n [] h = tt
matrix-sized K zero n (r ∷ A) h = absurd h
matrix-sized K (suc m) n [] h = absurd h
matrix-sized K (suc m) n (r ∷ A) h = (vector-size K n r h.0, matrix-sized K m n A h.1)

pub sized-size : (m n : ℕ) (A : List (List ℕ)) → Sized m n A → length A ≡ m
sized-size zero n [] h = refl
sized-size zero n (r ∷ A) h = absurd h
sized-size (suc m) n [] h = absurd h
sized-size (suc m) n (r ∷ A) h = ap suc (sized-size m n A h.1)

pub sized-identity : (n : ℕ) → Sized n n (identity n)
sized-identity zero = tt
sized-identity (suc n) = (ap suc (zeros-size n), shifted n n (identity n) (sized-identity n))
  where
    shifted : (m k : ℕ) (A : List (List ℕ)) → Sized m k A → Sized m (suc k) (map (λ row. 0 ∷ row) A)
    shifted zero k [] h = tt
    shifted zero k (r ∷ A) h = absurd h
    shifted (suc m) k [] h = absurd h
    shifted (suc m) k (r ∷ A) h = (ap suc h.0, shifted m k A h.1)

pub flat-size : (m n : ℕ) (A : List (List ℕ)) → Sized m n A → length (flat A) ≡ m * n
flat-size zero n [] h = omega arith
flat-size zero n (r ∷ A) h = absurd h
flat-size (suc m) n [] h = absurd h
flat-size (suc m) n (r ∷ A) h = let size : length r ≡ n = h.0 in
    omega (arith, length-append r (flat A), flat-size m n A h.1)

pub flat-scalars : (K : Ops) (m n : ℕ) (A : List (List ℕ)) → Matrix K m n A → AllScalars K (flat A)
flat-scalars K zero n [] h = All-nil (λ a. a < K.order)
flat-scalars K zero n (r ∷ A) h = absurd h
flat-scalars K (suc m) n [] h = absurd h
flat-scalars K (suc m) n (r ∷ A) h =
    All-append (λ a. a < K.order) r (flat A) (vector-scalars K n r h.0) (flat-scalars K m n A h.1)

pub cut-size : (m n : ℕ) (xs : List ℕ) → length (cut m n xs) ≡ m
cut-size zero n xs = refl
cut-size (suc m) n xs = ap suc (cut-size m n (drop n xs))

pub cut-flat : (m n : ℕ) (A : List (List ℕ)) → Sized m n A → cut m n (flat A) ≡ A
cut-flat zero n [] h = refl
cut-flat zero n (r ∷ A) h = absurd h
cut-flat (suc m) n [] h = absurd h
cut-flat (suc m) n (r ∷ A) h =
    ap₂ ◌∷◌ (take_at r (flat A) n h.0) (ap (cut m n) (drop_at r (flat A) n h.0) ∙ cut-flat m n A h.1)

pub flat-cut : (m n : ℕ) (xs : List ℕ) → length xs ≡ m * n → flat (cut m n xs) ≡ xs
flat-cut zero n [] e = refl
flat-cut zero n (x ∷ xs) e = absurd (omega arith)
flat-cut (suc m) n xs e =
    ap (λ t. take n xs ++ t) (flat-cut m n (drop n xs) (omega (arith, length-drop n xs))) ∙ take-append-drop n xs

pub cut-matrix : (K : Ops) (m n : ℕ) (xs : List ℕ) → length xs ≡ m * n → AllScalars K xs → Matrix K m n (cut m n xs)
cut-matrix K zero n xs e h = tt
cut-matrix K (suc m) n xs e h = (
  vector_of K n (take n xs) (length-take-le n xs (omega arith)) (All-take (λ a. a < K.order) n xs h),
  cut-matrix K m n (drop n xs) (omega (arith, length-drop n xs)) (All-drop (λ a. a < K.order) n xs h),
)

-- the row at i
pub cut-row : (m n : ℕ) (xs : List ℕ) (i : ℕ) → i < m → get_or (cut m n xs) i [] ≡ take n (drop (i * n) xs)
cut-row zero n xs i l = absurd (omega arith)
cut-row (suc m) n xs zero l = let start : 0 ≡ zero * n = omega arith in ap (λ k. take n (drop k xs)) start
cut-row (suc m) n xs (suc i) l =
    let start : n + i * n ≡ suc i * n = omega arith in
    cut-row m n (drop n xs) i (omega arith) ∙ ap (take n) (drop-drop (i * n) n xs ∙ ap (λ k. drop k xs) start)

-- the first i rows, as a loop over rows adds them up
unfoldable pub first_rows : ℕ → List (List ℕ) → List ℕ
first_rows i A = flat (take i A)

pub first_rows-none : (A : List (List ℕ)) → first_rows 0 A ≡ []
unfolding first_rows
first_rows-none A = refl

pub first_rows-next : (i : ℕ) (A : List (List ℕ)) → i < length A → first_rows (i + 1) A ≡ first_rows i A
    ++ get_or A i []
unfolding first_rows
first_rows-next i A l =
    ap flat (take_more A i [] l) ∙ flat-append (take i A) (get_or A i [] ∷ [])
    ∙ ap (λ t. flat (take i A) ++ t) (append-nil (get_or A i []))

pub first_rows-all : (i : ℕ) (A : List (List ℕ)) → length A ≡ i → first_rows i A ≡ flat A
unfolding first_rows
first_rows-all i A e = ap flat (take_all i A (omega arith))

pub first_rows-size : (m n i : ℕ) (A : List (List ℕ)) (xs : List ℕ) → Sized m n A → i ≡ m → xs ≡ first_rows i A
    → length xs ≡ m * n
first_rows-size m n i A xs h e now = ap length (now ∙ first_rows-all i A (sized-size m n A h ∙ sym e))
    ∙ flat-size m n A h

pub cut-first_rows : (m n i : ℕ) (A : List (List ℕ)) (xs : List ℕ) → Sized m n A → i ≡ m → xs ≡ first_rows i A
    → cut m n xs ≡ A
cut-first_rows m n i A xs h e now = ap (cut m n) (now ∙ first_rows-all i A (sized-size m n A h ∙ sym e))
    ∙ cut-flat m n A h

-- entries that are worked out one by one
pub take-plus : (K : Ops) (n : ℕ) (u v : List ℕ) → take n (plus K u v) ≡ plus K (take n u) (take n v)
take-plus K zero u v = refl
take-plus K (suc n) [] v = refl
take-plus K (suc n) (a ∷ u) [] = refl
take-plus K (suc n) (a ∷ u) (b ∷ v) = ap (λ t. K.add a b ∷ t) (take-plus K n u v)

pub drop-plus : (K : Ops) (n : ℕ) (u v : List ℕ) → drop n (plus K u v) ≡ plus K (drop n u) (drop n v)
drop-plus K zero u v = refl
drop-plus K (suc n) [] v = refl
drop-plus K (suc n) (a ∷ u) [] = sym (nil (drop n u))
  where
    nil : (w : List ℕ) → plus K w [] ≡ []
    nil [] = refl
    nil (c ∷ w) = refl
drop-plus K (suc n) (a ∷ u) (b ∷ v) = drop-plus K n u v

pub cut-plus : (K : Ops) (m n : ℕ) (u v : List ℕ) → cut m n (plus K u v) ≡ matrix_sum K (cut m n u) (cut m n v)
cut-plus K zero n u v = refl
cut-plus K (suc m) n u v =
    ap₂ ◌∷◌ (take-plus K n u v) (ap (cut m n) (drop-plus K n u v) ∙ cut-plus K m n (drop n u) (drop n v))

pub cut-negative : (K : Ops) (m n : ℕ) (v : List ℕ) → cut m n (negative K v) ≡ matrix_negative K (cut m n v)
cut-negative K zero n v = refl
cut-negative K (suc m) n v =
    ap₂ ◌∷◌ (take-map K.neg n v) (ap (cut m n) (drop-map K.neg n v) ∙ cut-negative K m n (drop n v))

pub flat-zero_matrix : (m n : ℕ) → flat (zero_matrix m n) ≡ zeros (m * n)
flat-zero_matrix zero n = let none : 0 ≡ zero * n = omega arith in ap zeros none
flat-zero_matrix (suc m) n =
    let size : n + m * n ≡ suc m * n = omega arith in
    ap (λ t. zeros n ++ t) (flat-zero_matrix m n) ∙ sym (zeros-append n (m * n)) ∙ ap zeros size

-- the row at i of the identity
pub identity-row : (n i : ℕ) → i < n → get_or (identity n) i [] ≡ zeros i ++ 1 ∷ zeros (n - 1 - i)
identity-row zero i l = absurd (omega arith)
identity-row (suc n) zero l = let size : n ≡ suc n - 1 - 0 = omega arith in ap (λ k. 1 ∷ zeros k) size
identity-row (suc n) (suc i) l =
    let size : n - 1 - i ≡ suc n - 1 - suc i = omega arith in
    shifted (identity n) i (omega (arith, sized-size n n (identity n) (sized-identity n)))
    ∙ ap (λ t. 0 ∷ t) (identity-row n i (omega arith) ∙ ap (λ k. zeros i ++ 1 ∷ zeros k) size)
  where
    shifted : (A : List (List ℕ)) (j : ℕ) → j < length A → get_or (map (λ row. 0 ∷ row) A) j [] ≡ 0 ∷ get_or A j []
    shifted [] j h = absurd (omega arith)
    shifted (r ∷ A) zero h = refl
    shifted (r ∷ A) (suc j) h = shifted A j (omega arith)

-- one more row of the identity
pub identity-next : (n i : ℕ) → i < n → first_rows (i + 1) (identity n)
    ≡ ((first_rows i (identity n) ++ zeros i) ++ 1 ∷ []) ++ zeros (n - 1 - i)
identity-next n i l =
    first_rows-next i (identity n) (omega (arith, sized-size n n (identity n) (sized-identity n)))
    ∙ ap (λ t. first_rows i (identity n) ++ t) (identity-row n i l)
    ∙ sym (append_assoc (first_rows i (identity n) ++ zeros i) (1 ∷ []) (zeros (n - 1 - i))
    ∙ append_assoc (first_rows i (identity n)) (zeros i) (1 ∷ zeros (n - 1 - i)))

-- the entries of a matrix in one list make that matrix
pub cut-zeros : (m n : ℕ) → cut m n (zeros (m * n)) ≡ zero_matrix m n
cut-zeros zero n = refl
cut-zeros (suc m) n =
    let size : suc m * n ≡ n + m * n = omega arith in
    ap (cut (suc m) n) (ap zeros size ∙ zeros-append n (m * n))
    ∙ ap₂ ◌∷◌ (take_at (zeros n) (zeros (m * n)) n (zeros-size n))
    (ap (cut m n) (drop_at (zeros n) (zeros (m * n)) n (zeros-size n)) ∙ cut-zeros m n)

pub ruleset cutting = (cut-zeros, cut-row, zeros-size, first_rows-none, identity-next)
