-- Rows in one list of entries, worked out row by row.
use Rattle.std.proofs.Common.{◌≡◌, ℕ, zero, suc, ◌+◌, ◌-◌, ◌*◌, ◌<◌, ◌≤◌, Bool, true, false, List, [], ◌∷◌, ◌++◌, length}
use Rattle.std.proofs.Common.{take, drop, get_or, refl, sym, ap, ap₂, ◌∙◌, subst, arith, append_assoc, All}
use Rattle.std.proofs.lemmas.List.{append-nil, take_at, drop_at, drop-drop, drop_all, get_or-take, get_or-drop}
use Rattle.std.proofs.lemmas.List.Elements.{All-append, All-take, All-drop, All-head, All-tail}
use Rattle.dense_blocks.specs.Field.{Ops}
use Rattle.dense_blocks.specs.FieldLaws.{IsField}
use Rattle.dense_blocks.specs.Vectors.{AllScalars, zeros, plus, combination}
use Rattle.dense_blocks.specs.Matrices.{cut, product}
use Rattle.dense_blocks.specs.MatrixFacts.{IsMatrix, identity, matrix_sum}
use Rattle.dense_blocks.proofs.Shapes.{Matrix, to_matrix, vector_of, row-vector, vector-scalars, vector-size}
use Rattle.dense_blocks.proofs.VectorLaws.{plus-zeros, combination-zeros}
use Rattle.dense_blocks.proofs.MatrixLaws.{product-row, product-matrix, matrix_sum-matrix}
use Rattle.dense_blocks.proofs.Cutting.{flat, Sized, matrix-sized, sized-size, sized-identity, flat-size}
use Rattle.dense_blocks.proofs.Cutting.{cut-matrix, cut-row, cut-flat, first_rows, first_rows-none, first_rows-next}
use Rattle.dense_blocks.proofs.Cutting.{first_rows-all, identity-row, flat-cut, flat-scalars}
use Rattle.dense_blocks.proofs.ClearingRows.{first_rows-length}
use Rattle.block_sparse.proofs.Windows.{sized-cut, sized-drop}
use Rattle.equivalences.specs.Rows.{AreRows, rows_of, unit_rows, with_product}

-- rows have their size, written or not
pub sized-units : (count start n : ℕ) → start + count ≤ n → Sized count n (unit_rows count start n)
sized-units count start n l = sized-drop start count n n (identity n) (sized-identity n) l

pub rows-sized : (count start n : ℕ) (b : Bool) (entries : List ℕ) → AreRows count start n b entries
    → Sized count n (rows_of count start n b entries)
rows-sized count start n true entries h = sized-cut count n entries (omega (arith, h.full refl))
rows-sized count start n false entries h = sized-units count start n (h.units refl)

-- the entries in a row, known from a row
pub width-known : (K : Ops) (m n w : ℕ) (A : List (List ℕ)) → Sized m w A → Matrix K m n A → 1 ≤ m → w ≡ n
width-known K zero n w A s h l = absurd (omega arith)
width-known K (suc m) n w [] s h l = absurd h
width-known K (suc m) n w (r ∷ A) s h l = sym s.0 ∙ vector-size K n r h.0

-- one row more of the identity
pub units-next : (count start n i : ℕ) → start + count ≤ n → i < count
    → first_rows (i + 1) (unit_rows count start n)
    ≡ ((first_rows i (unit_rows count start n) ++ zeros (start + i)) ++ 1 ∷ []) ++ zeros (n - 1 - (start + i))
units-next count start n i fit l =
    let U = unit_rows count start n in
    first_rows-next i U (omega (arith, sized-size count n U (sized-units count start n fit)))
    ∙ ap (λ t. first_rows i U ++ t)
    (get_or-take count (drop start (identity n)) i [] l ∙ get_or-drop start (identity n) i []
    ∙ identity-row n (start + i) (omega arith))
    ∙ sym (append_assoc (first_rows i U ++ zeros (start + i)) (1 ∷ []) (zeros (n - 1 - (start + i)))
    ∙ append_assoc (first_rows i U) (zeros (start + i)) (1 ∷ zeros (n - 1 - (start + i))))

-- the first i rows are those of B, the others as they were
pub record AreRowsDone (K : Ops) (w : ℕ) (start : List ℕ) (B : List (List ℕ)) (i : ℕ) (now : List ℕ) : Type 0 where
  pub rows : now ≡ first_rows i B ++ drop (i * w) start
  pub scalars : AllScalars K now

pub rows_done-start : (K : Ops) (w : ℕ) (start : List ℕ) (B : List (List ℕ)) → AllScalars K start
    → AreRowsDone K w start B 0 start
rows_done-start K w start B s =
    let none : 0 ≡ 0 * w = omega arith in
    record { rows = ap₂ (λ A j. A ++ drop j start) (sym (first_rows-none B)) none; scalars = s }

module _ (K : Ops) (m w : ℕ) (start : List ℕ) (B : List (List ℕ)) (hB : Matrix K m w B) where
  sized : Sized m w B
  sized = matrix-sized K m w B hB

  from_row : (i : ℕ) (now : List ℕ) → i < m → AreRowsDone K w start B i now → drop (i * w) now ≡ drop (i * w) start
  from_row i now l done = ap (drop (i * w)) done.rows
      ∙ drop_at (first_rows i B) (drop (i * w) start) (i * w) (first_rows-length m w i B sized (omega arith))

  -- the row that is next
  pub rows_done-row : (i : ℕ) (now : List ℕ) → i < m → AreRowsDone K w start B i now
      → take w (drop (i * w) now) ≡ get_or (cut m w start) i []
  rows_done-row i now l done = ap (take w) (from_row i now l done) ∙ sym (cut-row m w start i l)

  pub rows_done-next : (i : ℕ) (now new : List ℕ) → i < m → AreRowsDone K w start B i now
      → new ≡ take (i * w) now ++ (get_or B i [] ++ drop w (drop (i * w) now))
      → AreRowsDone K w start B (i + 1) new
  rows_done-next i now new l done is_new =
      let later : i * w + w ≡ (i + 1) * w = omega arith in
      record {
        rows = is_new
            ∙ ap (λ F. F ++ (get_or B i [] ++ drop w (drop (i * w) now)))
            (ap (take (i * w)) done.rows
            ∙ take_at (first_rows i B) (drop (i * w) start) (i * w) (first_rows-length m w i B sized (omega arith)))
            ∙ ap (λ t. first_rows i B ++ (get_or B i [] ++ t))
            (ap (drop w) (from_row i now l done) ∙ drop-drop w (i * w) start ∙ ap (λ k. drop k start) later)
            ∙ sym (append_assoc (first_rows i B) (get_or B i []) (drop ((i + 1) * w) start))
            ∙ ap (λ t. t ++ drop ((i + 1) * w) start)
            (sym (first_rows-next i B (omega (arith, sized-size m w B sized))));
        scalars = subst (AllScalars K) (sym is_new)
            (All-append (λ a. a < K.order) (take (i * w) now) (get_or B i [] ++ drop w (drop (i * w) now))
            (All-take (λ a. a < K.order) (i * w) now done.scalars)
            (All-append (λ a. a < K.order) (get_or B i []) (drop w (drop (i * w) now))
            (vector-scalars K w (get_or B i []) (row-vector K m w B i hB l))
            (All-drop (λ a. a < K.order) w (drop (i * w) now)
            (All-drop (λ a. a < K.order) (i * w) now done.scalars))));
      }

  pub rows_done-end : (i : ℕ) (now : List ℕ) → length start ≡ m * w → i ≡ m → AreRowsDone K w start B i now
      → cut m w now ≡ B
  rows_done-end i now full e done =
      ap (cut m w)
      (done.rows
      ∙ ap₂ (λ F t. F ++ t) (first_rows-all i B (omega (arith, sized-size m w B sized)))
      (ap (λ j. drop (j * w) start) e ∙ drop_all (m * w) start (omega arith))
      ∙ append-nil (flat B))
      ∙ cut-flat m w B sized

-- the row at i of a sum
sum-row : (K : Ops) (m n i : ℕ) (A B : List (List ℕ)) → Matrix K m n A → Matrix K m n B → i < m
    → get_or (matrix_sum K A B) i [] ≡ plus K (get_or A i []) (get_or B i [])
sum-row K zero n i A B hA hB l = absurd (omega arith)
sum-row K (suc m) n i [] B hA hB l = absurd hA
sum-row K (suc m) n i (a ∷ A) [] hA hB l = absurd hB
sum-row K (suc m) n zero (a ∷ A) (b ∷ B) hA hB l = refl
sum-row K (suc m) n (suc i) (a ∷ A) (b ∷ B) hA hB l = sum-row K m n i A B hA.1 hB.1 (omega arith)

module _ (K : Ops) (F : IsField K) (m k n : ℕ) (A J R : List (List ℕ)) (hA : Matrix K m n A) (hJ : Matrix K m k J)
    (hR : Matrix K k n R) where
  pub with_product-matrix : Matrix K m n (with_product K n A J R)
  with_product-matrix = matrix_sum-matrix K F m n A (product K n J R) hA (product-matrix K F m k n J R hJ hR)

  pub with_product-row : (i : ℕ) → i < m → get_or (with_product K n A J R) i []
      ≡ plus K (get_or A i []) (combination K n (get_or J i []) R)
  with_product-row i l =
      sum-row K m n i A (product K n J R) hA (product-matrix K F m k n J R hJ hR) l
      ∙ ap (plus K (get_or A i [])) (product-row K m k n i J R hJ l)

-- coefficients that are all zero
pub zero-combination : (K : Ops) (F : IsField K) (m n : ℕ) (cs : List ℕ) (R : List (List ℕ)) → All (λ k. k ≡ 0) cs
    → Matrix K m n R → combination K n cs R ≡ zeros n
zero-combination K F m n cs R h hR = ap (λ v. combination K n v R) (are-zeros cs h)
    ∙ combination-zeros K F (length cs) m n R hR
  where
    are-zeros : (cs : List ℕ) → All (λ k. k ≡ 0) cs → cs ≡ zeros (length cs)
    are-zeros [] h = refl
    are-zeros (c ∷ cs) h = ap₂ ◌∷◌ (All-head (λ k. k ≡ 0) c cs h) (are-zeros cs (All-tail (λ k. k ≡ 0) c cs h))

pub add_row-zero : (K : Ops) (F : IsField K) (m n : ℕ) (row cs entries : List ℕ) → length row ≡ n → AllScalars K row
    → All (λ k. k ≡ 0) cs → length entries ≡ m * n → AllScalars K entries
    → row ≡ plus K row (combination K n cs (cut m n entries))
add_row-zero K F m n row cs entries size scalars none full entry_scalars =
    sym (ap (plus K row) (zero-combination K F m n cs (cut m n entries) none (cut-matrix K m n entries full entry_scalars))
    ∙ plus-zeros K F n row (vector_of K n row size scalars))

-- rows once they are written
pub record AreWritten (K : Ops) (n : ℕ) (A : List (List ℕ)) (count w : ℕ) (entries : List ℕ) : Type 0 where
  pub count_is : length A ≡ count
  pub width_is : w ≡ n
  pub full : length entries ≡ count * n
  pub scalars : AllScalars K entries
  pub matrix_is : cut count n entries ≡ A

pub are_written : (K : Ops) (n : ℕ) (A : List (List ℕ)) (count start w : ℕ) (b : Bool) (old entries : List ℕ)
    → AreRows count start w b old → AreRows count start w true entries
    → cut count w entries ≡ rows_of count start w b old → rows_of count start w b old ≡ A
    → IsMatrix K (length A) n A → 1 ≤ length A → AreWritten K n A count w entries
are_written K n A count start w b old entries before after same is h l =
    let sized : Sized count w A = subst (Sized count w) is (rows-sized count start w b old before) in
    let size : length A ≡ count = sized-size count w A sized in
    let hA : Matrix K count n A = subst (λ m. Matrix K m n A) size (to_matrix K (length A) n A h) in
    let width : w ≡ n = width-known K count n w A sized hA (subst (λ m. 1 ≤ m) size l) in
    let matrix : cut count n entries ≡ A = ap (λ k. cut count k entries) (sym width) ∙ same ∙ is in
    let full : length entries ≡ count * n = after.full refl ∙ ap (λ k. count * k) width in
    record {
      count_is = size;
      width_is = width;
      full = full;
      scalars = subst (AllScalars K) (flat-cut count n entries full)
          (flat-scalars K count n (cut count n entries) (subst (Matrix K count n) (sym matrix) hA));
      matrix_is = matrix;
    }
