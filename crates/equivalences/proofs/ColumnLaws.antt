-- Columns of a matrix, written one after another into one list of entries.
use Rattle.std.proofs.Common.{◌≡◌, ◌≢◌, ℕ, zero, suc, ◌+◌, ◌*◌, ◌/◌, ◌%◌, ◌<◌, ◌≤◌, List, [], length, get_or, set, take, drop, map}
use Rattle.std.proofs.Common.{refl, sym, ap, ◌∙◌, subst, arith, inl, inr}
use Rattle.std.proofs.lemmas.Bool.{cases_eq}
use Rattle.std.proofs.lemmas.Nat.{mod-mul-add, div-mul-add}
use Rattle.std.proofs.lemmas.List.{get_or-set_same, get_or-set_other, get_or-map, get_or-take, get_or-drop, length-map}
use Rattle.std.proofs.lemmas.List.{length-take-le, length-drop, ext_get_or}
use Rattle.std.proofs.Math.Nat.{mul-le-mul_right}
use Rattle.dense_blocks.specs.Field.{Ops}
use Rattle.dense_blocks.specs.FieldLaws.{IsField}
use Rattle.dense_blocks.specs.Vectors.{AllScalars, zeros}
use Rattle.dense_blocks.specs.Matrices.{cut}
use Rattle.dense_blocks.proofs.Shapes.{Matrix}
use Rattle.dense_blocks.proofs.Cutting.{cut-matrix, cut-row, cut-size, flat-cut, flat-scalars}
use Rattle.block_sparse.proofs.CompareLaws.{rows-same}
use Rattle.equivalence_laws.specs.Transposes.{transpose}
use Rattle.equivalence_laws.proofs.TransposeLaws.{transpose-row, transpose-length, transpose-matrix}

-- different places in rows of w entries
columns-differ : (w i j k l : ℕ) → i < w → k < w → k ≢ i → j * w + k ≢ l * w + i
columns-differ w i j k l hi hk n = λ e. n (sym (mod-mul-add j w k hk) ∙ ap (λ m. m % w) e ∙ mod-mul-add l w i hi)

rows-differ : (w i j l : ℕ) → i < w → j ≢ l → j * w + i ≢ l * w + i
rows-differ w i j l hi n = λ e. n (sym (div-mul-add j w i hi) ∙ ap (λ m. m / w) e ∙ div-mul-add l w i hi)

-- of the column at i, of rows of w entries, those at the first n rows are written, and those at the others are 0
pub record IsColumnPut (w i : ℕ) (row old : List ℕ) (n : ℕ) (now : List ℕ) : Type 0 where
  pub put : (j : ℕ) → j < n → get_or now (j * w + i) 0 ≡ get_or row j 0
  pub rest : (j : ℕ) → n ≤ j → get_or now (j * w + i) 0 ≡ 0
  pub others : (j k : ℕ) → k < w → k ≢ i → get_or now (j * w + k) 0 ≡ get_or old (j * w + k) 0

module _ (w i : ℕ) (row old : List ℕ) (n : ℕ) (now : List ℕ) (within : i < w) (done : IsColumnPut w i row old n now) where
  pub column_put-skip : get_or row n 0 ≡ 0 → IsColumnPut w i row old (n + 1) now
  column_put-skip none = record {
    put = λ j l. elim (cases_eq j n) [
      | inl e ↦ done.rest j (omega (arith, e)) ∙ sym (ap (λ j. get_or row j 0) e ∙ none)
      | inr other ↦ done.put j (omega (arith, l, other))
    ];
    rest = λ j l. done.rest j (omega (arith, l));
    others = done.others;
  }

  pub column_put-write : n * w + i < length now → IsColumnPut w i row old (n + 1) (set now (n * w + i) (get_or row n 0))
  column_put-write inside = record {
    put = λ j l. elim (cases_eq j n) [
      | inl e ↦
          ap (λ j. get_or (set now (n * w + i) (get_or row n 0)) (j * w + i) 0) e
          ∙ get_or-set_same now (n * w + i) (get_or row n 0) 0 inside ∙ ap (λ j. get_or row j 0) (sym e)
      | inr other ↦ kept j i (rows-differ w i j n within other) ∙ done.put j (omega (arith, l, other))
    ];
    rest = λ j l. kept j i (rows-differ w i j n within (above j l)) ∙ done.rest j (omega (arith, l));
    others = λ j k l other. kept j k (columns-differ w i j k n within l other) ∙ done.others j k l other;
  }
    where
      kept : (j k : ℕ) → j * w + k ≢ n * w + i
          → get_or (set now (n * w + i) (get_or row n 0)) (j * w + k) 0 ≡ get_or now (j * w + k) 0
      kept j k apart = get_or-set_other now (n * w + i) (j * w + k) (get_or row n 0) 0 apart

      above : (j : ℕ) → n + 1 ≤ j → j ≢ n
      above j l = λ e. omega (arith, l, e)

pub zeros-entries : (n k : ℕ) → get_or (zeros n) k 0 ≡ 0
zeros-entries zero k = refl
zeros-entries (suc n) zero = refl
zeros-entries (suc n) (suc k) = zeros-entries n k

-- the first i rows of A are written as columns, of rows of m entries, and the other columns are 0
pub record AreColumnsPut (m : ℕ) (A : List (List ℕ)) (i : ℕ) (now : List ℕ) : Type 0 where
  pub put : (j k : ℕ) → k < i → get_or now (j * m + k) 0 ≡ get_or (get_or A k []) j 0
  pub rest : (j k : ℕ) → i ≤ k → k < m → get_or now (j * m + k) 0 ≡ 0

pub columns_put-start : (m : ℕ) (A : List (List ℕ)) (now : List ℕ) → ((k : ℕ) → get_or now k 0 ≡ 0)
    → AreColumnsPut m A 0 now
columns_put-start m A now none = record { put = λ j k l. absurd (omega arith); rest = λ j k l within. none (j * m + k) }

pub columns_put-next : (m : ℕ) (A : List (List ℕ)) (i : ℕ) (now new : List ℕ) → i < m → AreColumnsPut m A i now
    → ((j : ℕ) → get_or new (j * m + i) 0 ≡ get_or (get_or A i []) j 0)
    → ((j k : ℕ) → k < m → k ≢ i → get_or new (j * m + k) 0 ≡ get_or now (j * m + k) 0)
    → AreColumnsPut m A (i + 1) new
columns_put-next m A i now new l done column others = record {
  put = λ j k before. elim (cases_eq k i) [
    | inl e ↦
        ap (λ k. get_or new (j * m + k) 0) e ∙ column j ∙ ap (λ k. get_or (get_or A k []) j 0) (sym e)
    | inr n ↦ others j k (omega (arith, l, before)) n ∙ done.put j k (omega (arith, before, n))
  ];
  rest = λ j k above within. others j k within (λ e. omega (arith, above, e))
      ∙ done.rest j k (omega (arith, above)) within;
}

-- once all are written, it is the transposed matrix
pub columns_put-end : (m n : ℕ) (xs now : List ℕ) (i : ℕ) → i ≡ m → length now ≡ n * m
    → AreColumnsPut m (cut m n xs) i now → cut n m now ≡ transpose n (cut m n xs)
columns_put-end m n xs now i all full done =
    rows-same (cut n m now) (transpose n A) (cut-size n m now ∙ sym (transpose-length n A)) row
  where
    A : List (List ℕ)
    A = cut m n xs

    entry : (j k : ℕ) → k < m → get_or (take m (drop (j * m) now)) k 0 ≡ get_or (map (λ row. get_or row j 0) A) k 0
    entry j k l =
        get_or-take m (drop (j * m) now) k 0 l ∙ get_or-drop (j * m) now k 0
        ∙ done.put j k (omega (arith, l, all))
        ∙ sym (get_or-map (λ row. get_or row j 0) A k [] 0 (omega (arith, l, cut-size m n xs)))

    size : (j : ℕ) → j < n → length (take m (drop (j * m) now)) ≡ m
    size j l =
        let room : (j + 1) * m ≤ n * m = mul-le-mul_right m (omega (arith, l)) in
        length-take-le m (drop (j * m) now) (omega (arith, length-drop (j * m) now, full, room))

    row : (j : ℕ) → j < length (cut n m now) → get_or (cut n m now) j [] ≡ get_or (transpose n A) j []
    row j l =
        let below : j < n = omega (arith, l, cut-size n m now) in
        cut-row n m now j below
        ∙ ext_get_or 0 (take m (drop (j * m) now)) (map (λ row. get_or row j 0) A)
        (size j below ∙ sym (length-map A (λ row. get_or row j 0) ∙ cut-size m n xs))
        (λ k h. entry j k (omega (arith, h, size j below)))
        ∙ sym (transpose-row n j A below)

-- its entries are scalars where those of the matrix are
pub transposed-scalars : (K : Ops) (F : IsField K) (m n : ℕ) (xs entries : List ℕ) → length xs ≡ m * n
    → AllScalars K xs → length entries ≡ n * m → cut n m entries ≡ transpose n (cut m n xs) → AllScalars K entries
transposed-scalars K F m n xs entries full scalars size is =
    subst (AllScalars K) (flat-cut n m entries size)
    (flat-scalars K n m (cut n m entries)
    (subst (Matrix K n m) (sym is) (transpose-matrix K F m n (cut m n xs) (cut-matrix K m n xs full scalars))))
