-- Rows that a loop clears one by one, in one list of entries.
use Rattle.std.proofs.Common.{◌≡◌, ℕ, zero, suc, ◌+◌, ◌-◌, ◌*◌, ◌<◌, ◌≤◌, List, [], ◌∷◌, ◌++◌, length, map, take, drop}
use Rattle.std.proofs.Common.{get_or, refl, sym, ap, ap₂, ◌∙◌, subst, arith, append_assoc, length-drop}
use Rattle.std.proofs.lemmas.List.{append-nil, take_at, drop_at, drop-drop, drop_all, get_or-map, length-map}
use Rattle.std.proofs.lemmas.List.{length-take-le}
use Rattle.std.proofs.Math.Nat.{mul-le-mul_right}
use Rattle.std.proofs.lemmas.List.Elements.{All-append, All-take, All-drop}
use Rattle.dense_blocks.specs.Field.{Ops}
use Rattle.dense_blocks.specs.FieldLaws.{IsField}
use Rattle.dense_blocks.specs.Vectors.{AllScalars, multiple}
use Rattle.dense_blocks.specs.Matrices.{cut}
use Rattle.dense_blocks.specs.Columns.{row_remainder}
use Rattle.dense_blocks.proofs.Shapes.{Vector, Matrix, vector_of, row-vector, vector-scalars}
use Rattle.dense_blocks.proofs.VectorLaws.{plus-vector, multiple-vector}
use Rattle.dense_blocks.proofs.Cutting.{flat, Sized, matrix-sized, flat-size, cut-size, cut-matrix, cut-row, cut-flat}
use Rattle.dense_blocks.proofs.Cutting.{first_rows, first_rows-none, first_rows-next, first_rows-all}

sized-take : (m n i : ℕ) (A : List (List ℕ)) → Sized m n A → i ≤ m → Sized i n (take i A)
sized-take m n zero A h l = tt
sized-take zero n (suc i) A h l = absurd (omega arith)
sized-take (suc m) n (suc i) [] h l = absurd h
sized-take (suc m) n (suc i) (r ∷ A) h l = (h.0, sized-take m n i A h.1 (omega arith))

pub first_rows-length : (m n i : ℕ) (A : List (List ℕ)) → Sized m n A → i ≤ m → length (first_rows i A) ≡ i * n
unfolding first_rows
first_rows-length m n i A h l = flat-size i n (take i A) (sized-take m n i A h l)

-- the row at i is within the entries
pub next_row-size : (m n i : ℕ) (xs : List ℕ) → i < m → length xs ≡ m * n
    → length (take ((i * n + n) - i * n) (drop (i * n) xs)) ≡ n
next_row-size m n i xs l e =
    let room : (i + 1) * n ≤ m * n = mul-le-mul_right n (omega arith) in
    length-take-le ((i * n + n) - i * n) (drop (i * n) xs) (omega (arith, length-drop (i * n) xs)) ∙ omega arith

-- the first i rows are cleared, the others as they were
pub record ClearsRows (K : Ops) (column : ℕ) (pivot : List ℕ) (count : ℕ) (start : List ℕ) (i : ℕ) (now : List ℕ) :
    Type 0 where
  pub rows : now ≡ first_rows i (map (row_remainder K column pivot) (cut count (length pivot) start))
      ++ drop (i * length pivot) start
  pub scalars : AllScalars K now

-- the row at i, and the entries before and after it
before_row : (A : List (List ℕ)) (m n i : ℕ) (start now : List ℕ) → Sized m n A → i < m → now ≡ first_rows i A
    ++ drop (i * n) start → take (i * n) now ≡ first_rows i A
before_row A m n i start now h l e = ap (take (i * n)) e ∙ take_at (first_rows i A) (drop (i * n) start) (i * n)
    (first_rows-length m n i A h (omega arith))

from_row : (A : List (List ℕ)) (m n i : ℕ) (start now : List ℕ) → Sized m n A → i < m → now ≡ first_rows i A
    ++ drop (i * n) start → drop (i * n) now ≡ drop (i * n) start
from_row A m n i start now h l e = ap (drop (i * n)) e ∙ drop_at (first_rows i A) (drop (i * n) start) (i * n)
    (first_rows-length m n i A h (omega arith))

pub clears_rows-start : (K : Ops) (column : ℕ) (pivot : List ℕ) (count : ℕ) (start : List ℕ) → AllScalars K start
    → ClearsRows K column pivot count start 0 start
clears_rows-start K column pivot count start s =
    let none : 0 ≡ 0 * length pivot = omega arith in
    record {
      rows = ap₂ (λ A j. A ++ drop j start)
          (sym (first_rows-none (map (row_remainder K column pivot) (cut count (length pivot) start)))) none;
      scalars = s;
    }

module _ (K : Ops) (h : IsField K) where
  pub without-vector : (n column : ℕ) (pivot row : List ℕ) → Vector K n pivot → Vector K n row
      → Vector K n (row_remainder K column pivot row)
  without-vector n column pivot row hp hr =
      plus-vector K h n row (multiple K (K.neg (get_or row column 0)) pivot) hr
      (multiple-vector K h n (K.neg (get_or row column 0)) pivot hp)

  pub cleared-matrix : (m n column : ℕ) (pivot : List ℕ) (A : List (List ℕ)) → Vector K n pivot → Matrix K m n A
      → Matrix K m n (map (row_remainder K column pivot) A)
  cleared-matrix zero n column pivot [] hp h = tt
  cleared-matrix zero n column pivot (r ∷ A) hp h = absurd h
  cleared-matrix (suc m) n column pivot [] hp h = absurd h
  cleared-matrix (suc m) n column pivot (r ∷ A) hp h =
      (without-vector n column pivot r hp h.0, cleared-matrix m n column pivot A hp h.1)

  module _ (column : ℕ) (pivot : List ℕ) (count : ℕ) (start : List ℕ) (full : length start ≡ count * length pivot)
      (hp : AllScalars K pivot) (hs : AllScalars K start) where
    cleared_is : Matrix K count (length pivot) (map (row_remainder K column pivot) (cut count (length pivot) start))
    cleared_is =
        cleared-matrix count (length pivot) column pivot (cut count (length pivot) start)
        (vector_of K (length pivot) pivot refl hp)
        (cut-matrix K count (length pivot) start full hs)

    -- the row that is cleared next
    pub clears_rows-row : (i : ℕ) (now : List ℕ) → i < count → ClearsRows K column pivot count start i now
        → take (length pivot) (drop (i * length pivot) now) ≡ get_or (cut count (length pivot) start) i []
    clears_rows-row i now l so_far =
        let A : List (List ℕ) = map (row_remainder K column pivot) (cut count (length pivot) start) in
        ap (take (length pivot)) (from_row A count (length pivot) i start now
        (matrix-sized K count (length pivot) A cleared_is) l so_far.rows)
        ∙ sym (cut-row count (length pivot) start i l)

    pub clears_rows-next : (i : ℕ) (now row new : List ℕ) → i < count → ClearsRows K column pivot count start i now
        → row ≡ take (length pivot) (drop (i * length pivot) now)
        → new ≡ take (i * length pivot) now
        ++ (row_remainder K column pivot row ++ drop (length pivot) (drop (i * length pivot) now))
        → ClearsRows K column pivot count start (i + 1) new
    clears_rows-next i now row new l so_far is_row is_new =
        let n : ℕ = length pivot in
        let rows : List (List ℕ) = cut count n start in
        let A : List (List ℕ) = map (row_remainder K column pivot) rows in
        let sized : Sized count n A = matrix-sized K count n A cleared_is in
        let row_is : row_remainder K column pivot row ≡ get_or A i [] =
        ap (row_remainder K column pivot) (is_row ∙ clears_rows-row i now l so_far)
        ∙ sym (get_or-map (row_remainder K column pivot) rows i [] [] (omega (arith, cut-size count n start))) in
        let later : i * n + n ≡ (i + 1) * n = omega arith in
        let cleared_row : Vector K n (get_or A i []) = row-vector K count n A i cleared_is l in
        let rest : List ℕ = drop ((i + 1) * n) start in
        let is : new ≡ first_rows (i + 1) A ++ rest =
        is_new
        ∙ ap₂ (λ F r. F ++ (r ++ drop n (drop (i * n) now))) (before_row A count n i start now sized l so_far.rows)
        row_is
        ∙ ap (λ t. first_rows i A ++ (get_or A i [] ++ t))
        (ap (drop n) (from_row A count n i start now sized l so_far.rows) ∙ drop-drop n (i * n) start
        ∙ ap (λ k. drop k start) later)
        ∙ sym (append_assoc (first_rows i A) (get_or A i []) rest)
        ∙ ap (λ t. t ++ rest) (sym
        (first_rows-next i A (omega (
          arith,
          length-map rows (row_remainder K column pivot),
          cut-size count n start,
        )))) in
        record {
          rows = is;
          scalars = subst (AllScalars K) (sym is_new)
              (All-append (λ a. a < K.order) (take (i * n) now)
              (row_remainder K column pivot row ++ drop n (drop (i * n) now))
              (All-take (λ a. a < K.order) (i * n) now so_far.scalars)
              (All-append (λ a. a < K.order) (row_remainder K column pivot row) (drop n (drop (i * n) now))
              (subst (AllScalars K) (sym row_is) (vector-scalars K n (get_or A i []) cleared_row))
              (All-drop (λ a. a < K.order) n (drop (i * n) now)
              (All-drop (λ a. a < K.order) (i * n) now so_far.scalars))));
        }

    pub clears_rows-end : (i : ℕ) (now : List ℕ) → i ≡ count → ClearsRows K column pivot count start i now
        → cut count (length pivot) now ≡ map (row_remainder K column pivot) (cut count (length pivot) start)
    clears_rows-end i now e so_far =
        let n : ℕ = length pivot in
        let A : List (List ℕ) = map (row_remainder K column pivot) (cut count n start) in
        let sized : Sized count n A = matrix-sized K count n A cleared_is in
        ap (cut count n)
        (so_far.rows
        ∙ ap₂ (λ F t. F ++ t) (first_rows-all i A
        (omega (arith, length-map (cut count n start) (row_remainder K column pivot), cut-size count n start)))
        (ap (λ j. drop (j * n) start) e ∙ drop_all (count * n) start (omega arith))
        ∙ append-nil (flat A))
        ∙ cut-flat count n A sized
