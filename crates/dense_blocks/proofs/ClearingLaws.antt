-- One more column of rows brought to that of the identity.
use Rattle.std.proofs.Common.{◌≡◌, ◌≢◌, ℕ, zero, suc, ◌+◌, ◌-◌, ◌*◌, ◌<◌, ◌≤◌, List, [], ◌∷◌, ◌++◌, length, map, take}
use Rattle.std.proofs.Common.{drop, get_or, All, refl, sym, ap, ap₂, ◌∙◌, subst, arith, add-one, length-append}
use Rattle.std.proofs.Common.{length-drop}
use Rattle.std.proofs.lemmas.List.{take_more, take-append-le, take-map, take_at, drop_at, get_or-take, get_or-drop}
use Rattle.std.proofs.lemmas.List.{length-map}
use Rattle.std.proofs.lemmas.List.Elements.{All-cons, All-get_or, All-drop}
use Rattle.dense_blocks.specs.Field.{Ops}
use Rattle.dense_blocks.specs.FieldLaws.{IsField}
use Rattle.dense_blocks.specs.Vectors.{AllScalars, zeros, plus, multiple, dot}
use Rattle.dense_blocks.specs.Matrices.{cut}
use Rattle.dense_blocks.specs.Columns.{row_remainder, Annihilate, unit, StartUnits, HasUnitColumns, IsRaised}
use Rattle.dense_blocks.proofs.ScalarLaws.{zero_add, mul_zero, one_mul, inv_mul, mul_inv_mul}
use Rattle.dense_blocks.proofs.Shapes.{Vector, Matrix, to_vector, from_vector, vector-size, vector-scalars, to_matrix}
use Rattle.dense_blocks.proofs.Shapes.{from_matrix, matrix-size, append-matrix, row-vector}
use Rattle.dense_blocks.proofs.VectorLaws.{plus-vector, multiple-vector, plus-zeros, multiple-zeros, zeros-plus-zeros}
use Rattle.dense_blocks.proofs.VectorLaws.{plus-dot, multiple-dot, dot-below}
use Rattle.dense_blocks.proofs.Cutting.{take-plus, flat-cut, flat-scalars, cut-row, cut-size, cut-matrix}
use Rattle.dense_blocks.proofs.RowSteps.{zeros-push, multiple-at, plus-multiple-at}
use Rattle.dense_blocks.proofs.Leading.{take-vector}
use Rattle.dense_blocks.proofs.EliminationSteps.{front_all}
use Rattle.dense_blocks.proofs.ClearingRows.{without-vector, cleared-matrix}

back_all : (P : ℕ → Type 0) (xs ys : List ℕ) → All P (xs ++ ys) → All P ys
back_all P xs ys all = subst (All P) (drop_at xs ys (length xs) refl) (All-drop P (length xs) (xs ++ ys) all)

-- the entries of rows that are cut out of one list
pub cut-at : (m n i j : ℕ) (xs : List ℕ) → i < m → j < n → get_or (get_or (cut m n xs) i []) j 0 ≡ get_or xs (i * n + j)
    0
cut-at m n i j xs hi hj =
    ap (λ r. get_or r j 0) (cut-row m n xs i hi) ∙ get_or-take n (drop (i * n) xs) j 0 hj ∙ get_or-drop (i * n) xs j 0

pub cut-append : (j m n : ℕ) (a b : List ℕ) → length a ≡ j * n → cut (j + m) n (a ++ b) ≡ cut j n a ++ cut m n b
cut-append zero m n [] b e = let none : zero + m ≡ m = omega arith in ap (λ k. cut k n b) none
cut-append zero m n (x ∷ a) b e = absurd (omega arith)
cut-append (suc j) m n a b e =
    let more : suc j + m ≡ suc (j + m) = omega arith in
    let inside : n ≤ length a = omega arith in
    ap (λ k. cut k n (a ++ b)) more
    ∙ ap₂ ◌∷◌ (take-append-le n a b inside)
    (ap (cut (j + m) n) (drop-append-le n a b inside) ∙ cut-append j m n (drop n a) b (omega (arith, length-drop n a)))
  where
    drop-append-le : (k : ℕ) (xs ys : List ℕ) → k ≤ length xs → drop k (xs ++ ys) ≡ drop k xs ++ ys
    drop-append-le zero xs ys l = refl
    drop-append-le (suc k) [] ys l = absurd (omega arith)
    drop-append-le (suc k) (x ∷ xs) ys l = drop-append-le k xs ys (omega arith)

-- the rows above a row, that row, and those below
pub cut-three : (m j k n : ℕ) (a p b : List ℕ) → m ≡ j + suc k → length a ≡ j * n → length p ≡ n
    → cut m n (a ++ (p ++ b)) ≡ cut j n a ++ p ∷ cut k n b
cut-three m j k n a p b e ea ep =
    ap (λ t. cut t n (a ++ (p ++ b))) e ∙ cut-append j (suc k) n a (p ++ b) ea
    ∙ ap (λ t. cut j n a ++ t) (ap₂ ◌∷◌ (take_at p b n ep) (ap (cut k n) (drop_at p b n ep)))

pub cut-scalars : (K : Ops) (m n : ℕ) (xs : List ℕ) → length xs ≡ m * n → Matrix K m n (cut m n xs) → AllScalars K xs
cut-scalars K m n xs e h = subst (AllScalars K) (flat-cut m n xs e) (flat-scalars K m n (cut m n xs) h)

-- as many entries below a row as are left
pub below-size : (n j : ℕ) (rows above pivot below : List ℕ) → j < n → length rows ≡ n * (2 * n)
    → rows ≡ above ++ (pivot ++ below)
    → length above ≡ j * (2 * n) → length pivot ≡ 2 * n → length below ≡ ((n - j) - 1) * length pivot
below-size n j rows above pivot below l full is ea ep =
    let w : ℕ = 2 * n in
    let k : ℕ = (n - j) - 1 in
    let e : n ≡ j + suc k = omega arith in
    let all : n * w ≡ j * w + (w + k * w) = ap (λ t. t * w) e ∙ omega arith in
    let sizes : length rows ≡ length above + (length pivot + length below) =
    ap length is ∙ length-append above (pivot ++ below) ∙ ap (λ t. length above + t) (length-append pivot below) in
    let left : length below ≡ k * w = omega (arith, all, sizes) in
    left ∙ ap (λ t. k * t) (sym ep)

-- the rows from one on
from_pivot : (n j : ℕ) (rows above pivot below : List ℕ) → j < n → rows ≡ above ++ (pivot ++ below)
    → length above ≡ j * (2 * n) → length pivot ≡ 2 * n
    → cut n (2 * n) rows ≡ cut j (2 * n) above ++ pivot ∷ cut ((n - j) - 1) (2 * n) below
from_pivot n j rows above pivot below l is ea ep =
    ap (cut n (2 * n)) is ∙ cut-three n j ((n - j) - 1) (2 * n) above pivot below (omega arith) ea ep

-- only zeros in the column, from the row j on
pub column-stuck : (K : Ops) (n j : ℕ) (rows above pivot below : List ℕ) → j < n → rows ≡ above ++ (pivot ++ below)
    → length above ≡ j * (2 * n) → length pivot ≡ 2 * n
    → get_or pivot j 0 ≡ 0 → All (λ r. get_or r j 0 ≡ 0) (cut ((n - j) - 1) (length pivot) below)
    → All (λ r. get_or r j 0 ≡ 0) (drop j (cut n (2 * n) rows))
column-stuck K n j rows above pivot below l is ea ep here there =
    let P : List ℕ → Type 0 = λ r. get_or r j 0 ≡ 0 in
    let rest : List (List ℕ) = cut ((n - j) - 1) (2 * n) below in
    subst (All P)
    (sym (ap (drop j) (from_pivot n j rows above pivot below l is ea ep) ∙ drop_at (cut j (2 * n) above) (pivot ∷ rest)
    j (cut-size j (2 * n) above)))
    (All-cons P pivot rest here (subst (λ w. All P (cut ((n - j) - 1) w below)) ep there))

-- unit vectors
pub unit-past : (n i : ℕ) → n ≤ i → unit n i ≡ zeros n
unit-past zero i l = refl
unit-past (suc n) zero l = absurd (omega arith)
unit-past (suc n) (suc i) l = ap (λ t. 0 ∷ t) (unit-past n i (omega arith))

unit-next : (n i : ℕ) → i ≢ n → unit (suc n) i ≡ unit n i ++ 0 ∷ []
unit-next zero zero d = absurd (d refl)
unit-next zero (suc i) d = refl
unit-next (suc n) zero d = ap (λ t. 1 ∷ t) (sym (zeros-push n))
unit-next (suc n) (suc i) d = ap (λ t. 0 ∷ t) (unit-next n i (λ e. d (ap suc e)))

unit-own : (n : ℕ) → unit (suc n) n ≡ zeros n ++ 1 ∷ []
unit-own zero = refl
unit-own (suc n) = ap (λ t. 0 ∷ t) (unit-own n)

pub units-append : (n i : ℕ) (A B : List (List ℕ)) → StartUnits n i (A ++ B) → StartUnits n i A
    × StartUnits n (i + length A) B
units-append n i [] B h = (tt, subst (λ k. StartUnits n k B) (omega arith) h)
units-append n i (r ∷ A) B h =
    let rest : StartUnits n (suc i) A × StartUnits n (suc i + length A) B = units-append n (suc i) A B h.1 in
    ((h.0, rest.0), subst (λ k. StartUnits n k B) (omega arith) rest.1)

units-join : (n i : ℕ) (A B : List (List ℕ)) → StartUnits n i A → StartUnits n (i + length A) B
    → StartUnits n i (A ++ B)
units-join n i [] B ha hb = subst (λ k. StartUnits n k B) (omega arith) hb
units-join n i (r ∷ A) B ha hb = (ha.0, units-join n (suc i) A B ha.1 (subst (λ k. StartUnits n k B) (omega arith) hb))

pub units-at : (n i k : ℕ) (A : List (List ℕ)) → StartUnits n i A → k < length A → take n (get_or A k [])
    ≡ unit n (i + k)
units-at n i k [] h l = absurd (omega arith)
units-at n i zero (r ∷ A) h l = h.0 ∙ ap (unit n) (omega arith)
units-at n i (suc k) (r ∷ A) h l = units-at n (suc i) k A h.1 (omega arith) ∙ ap (unit n) (omega arith)

-- no column is cleared yet
units-none : (i : ℕ) (A : List (List ℕ)) → StartUnits 0 i A
units-none i [] = tt
units-none i (r ∷ A) = (refl, units-none (suc i) A)

pub cleared-none : (K : Ops) (n : ℕ) (rows : List ℕ) → length rows ≡ n * (2 * n) → AllScalars K rows
    → HasUnitColumns K n 0 (cut n (2 * n) rows) (cut n (2 * n) rows)
cleared-none K n rows e s = record {
  matrix = from_matrix K n (2 * n) (cut n (2 * n) rows) (cut-matrix K n (2 * n) rows e s);
  there = λ x z. z;
  back = λ x z. z;
  units = units-none 0 (cut n (2 * n) rows);
}

pub cleared-scalars : (K : Ops) (n j : ℕ) (before : List (List ℕ)) (rows : List ℕ) → length rows ≡ n * (2 * n)
    → HasUnitColumns K n j before (cut n (2 * n) rows) → AllScalars K rows
cleared-scalars K n j before rows e now =
    cut-scalars K n (2 * n) rows e (to_matrix K n (2 * n) (cut n (2 * n) rows) now.matrix)

-- what rows kill
pub kills-append : (K : Ops) (A B : List (List ℕ)) (x : List ℕ) → Annihilate K (A ++ B) x → Annihilate K A x
    × Annihilate K B x
kills-append K [] B x h = (tt, h)
kills-append K (r ∷ A) B x h = ((h.0, (kills-append K A B x h.1).0), (kills-append K A B x h.1).1)

pub kills-join : (K : Ops) (A B : List (List ℕ)) (x : List ℕ) → Annihilate K A x → Annihilate K B x
    → Annihilate K (A ++ B) x
kills-join K [] B x ha hb = hb
kills-join K (r ∷ A) B x ha hb = (ha.0, kills-join K A B x ha.1 hb)

kills-at : (K : Ops) (A : List (List ℕ)) (x : List ℕ) (k : ℕ) → Annihilate K A x → k < length A
    → dot K (get_or A k []) x ≡ 0
kills-at K [] x k h l = absurd (omega arith)
kills-at K (r ∷ A) x zero h l = h.0
kills-at K (r ∷ A) x (suc k) h l = kills-at K A x k h.1 (omega arith)

module _ (K : Ops) (h : IsField K) where
  -- a row row_remainder the pivot does what the row does where the pivot is 0
  without-dot : (n column : ℕ) (pivot row x : List ℕ) → Vector K n pivot → Vector K n row → dot K pivot x ≡ 0
      → dot K (row_remainder K column pivot row) x ≡ dot K row x
  without-dot n column pivot row x hp hr z =
      let k : ℕ = K.neg (get_or row column 0) in
      plus-dot K h n row (multiple K k pivot) x hr (multiple-vector K h n k pivot hp)
      ∙ ap (K.add (dot K row x)) (multiple-dot K h k pivot x ∙ ap (K.mul k) z ∙ mul_zero K h k)
      ∙ h.add_zero (dot K row x) (dot-below K h row x)

  kills-cleared : (m n column : ℕ) (pivot : List ℕ) (A : List (List ℕ)) (x : List ℕ) → Vector K n pivot → Matrix K m n A
      → dot K pivot x ≡ 0
      → Annihilate K A x → Annihilate K (map (row_remainder K column pivot) A) x
  kills-cleared m n column pivot [] x hp ha z k = tt
  kills-cleared zero n column pivot (r ∷ A) x hp ha z k = absurd ha
  kills-cleared (suc m) n column pivot (r ∷ A) x hp ha z k =
      (without-dot n column pivot r x hp ha.0 z ∙ k.0, kills-cleared m n column pivot A x hp ha.1 z k.1)

  kills-uncleared : (m n column : ℕ) (pivot : List ℕ) (A : List (List ℕ)) (x : List ℕ) → Vector K n pivot
      → Matrix K m n A → dot K pivot x ≡ 0
      → Annihilate K (map (row_remainder K column pivot) A) x → Annihilate K A x
  kills-uncleared m n column pivot [] x hp ha z k = tt
  kills-uncleared zero n column pivot (r ∷ A) x hp ha z k = absurd ha
  kills-uncleared (suc m) n column pivot (r ∷ A) x hp ha z k =
      (sym (without-dot n column pivot r x hp ha.0 z) ∙ k.0, kills-uncleared m n column pivot A x hp ha.1 z k.1)

  -- a row of another place gets a 0 in the column
  row-cleared : (n j i : ℕ) (pivot row : List ℕ) → Vector K n pivot → Vector K n row → j < n → i ≢ j
      → take j row ≡ unit j i → take j pivot ≡ zeros j → get_or pivot j 0 ≡ 1
      → take (suc j) (row_remainder K j pivot row) ≡ unit (suc j) i
  row-cleared n j i pivot row hp hr l other is_row is_pivot one =
      let a : ℕ = get_or row j 0 in
      let new : List ℕ = row_remainder K j pivot row in
      let size : length pivot ≡ length row = vector-size K n pivot hp ∙ sym (vector-size K n row hr) in
      let inside : j < length row = omega (arith, vector-size K n row hr) in
      let start : Vector K j (unit j i) = subst (Vector K j) is_row (take-vector K n j row hr (omega arith)) in
      let prefix : take j new ≡ unit j i =
      take-plus K j row (multiple K (K.neg a) pivot)
      ∙ ap₂ (plus K) is_row (take-map (K.mul (K.neg a)) j pivot ∙ ap (multiple K (K.neg a)) is_pivot
      ∙ multiple-zeros K h (K.neg a) j)
      ∙ plus-zeros K h j (unit j i) start in
      let last : get_or new j 0 ≡ 0 =
      sym (plus-multiple-at K (K.neg a) j row pivot size inside)
      ∙ ap (K.add a) (ap (K.mul (K.neg a)) one ∙ h.mul_one (K.neg a) (h.neg_below a)) ∙ h.add_neg a in
      ap (λ t. take t new) (sym (add-one j))
      ∙ take_more new j 0 (omega (arith, l, vector-size K n new (without-vector K h n j pivot row hp hr)))
      ∙ ap₂ (λ s x. s ++ x ∷ []) prefix last
      ∙ sym (unit-next j i other)

  units-cleared : (m n j i : ℕ) (pivot : List ℕ) (A : List (List ℕ)) → Vector K n pivot → Matrix K m n A → j < n
      → ((k : ℕ) → k < length A → i + k ≢ j)
      → StartUnits j i A → take j pivot ≡ zeros j → get_or pivot j 0 ≡ 1
      → StartUnits (suc j) i (map (row_remainder K j pivot) A)
  units-cleared m n j i pivot [] hp ha l other u is_pivot one = tt
  units-cleared zero n j i pivot (r ∷ A) hp ha l other u is_pivot one = absurd ha
  units-cleared (suc m) n j i pivot (r ∷ A) hp ha l other u is_pivot one = (
    row-cleared n j i pivot r hp ha.0 l (λ e. other 0 (omega arith) (omega arith)) u.0 is_pivot one,
    units-cleared m n j (suc i) pivot A hp ha.1 l (λ k low e. other (suc k) (omega arith) (omega arith)) u.1 is_pivot
        one,
  )

  -- the pivot, multiple to have a 1 in the column
  pivot-multiple : (n j : ℕ) (p : List ℕ) → Vector K n p → j < n → take j p ≡ zeros j → get_or p j 0 ≢ 0
      → take (suc j) (multiple K (K.inv (get_or p j 0)) p) ≡ unit (suc j) j
  pivot-multiple n j p hp l start not =
      let a : ℕ = get_or p j 0 in
      let new : List ℕ = multiple K (K.inv a) p in
      let inside : j < length p = omega (arith, vector-size K n p hp) in
      let low : a < K.order = All-get_or (λ b. b < K.order) p j 0 inside (vector-scalars K n p hp) in
      ap (λ t. take t new) (sym (add-one j))
      ∙ take_more new j 0 (omega (arith, vector-size K n new (multiple-vector K h n (K.inv a) p hp)))
      ∙ ap₂ (λ s x. s ++ x ∷ [])
      (take-map (K.mul (K.inv a)) j p ∙ ap (multiple K (K.inv a)) start ∙ multiple-zeros K h (K.inv a) j)
      (sym (multiple-at K (K.inv a) j p inside) ∙ inv_mul K h a low not)
      ∙ sym (unit-own j)

  pub column-cleared : (n j m : ℕ) (A B : List (List ℕ)) (old p : List ℕ) → n ≡ j + suc m → Matrix K j (2 * n) A
      → Matrix K m (2 * n) B
      → IsRaised K j (2 * n) B old p → (before : List (List ℕ)) → HasUnitColumns K n j before (A ++ old ∷ B)
      → let new : List ℕ = multiple K (K.inv (get_or p j 0)) p in HasUnitColumns K n (j + 1) before
      (map (row_remainder K j new) A ++ new ∷ map (row_remainder K j new) B)
  column-cleared n j m A B old p size ha hb raised before now =
      let w : ℕ = 2 * n in
      let a : ℕ = get_or p j 0 in
      let k : ℕ = K.inv a in
      let new : List ℕ = multiple K k p in
      let hp : Vector K w p = to_vector K w p raised.vector in
      let hnew : Vector K w new = multiple-vector K h w k p hp in
      let inside : j < w = omega arith in
      let in_p : j < length p = omega (arith, vector-size K w p hp) in
      let low : a < K.order = All-get_or (λ b. b < K.order) p j 0 in_p (vector-scalars K w p hp) in
      let rows : length A ≡ j = matrix-size K j w A ha in
      let units : StartUnits j 0 A × StartUnits j (0 + length A) (old ∷ B) = units-append j 0 A (old ∷ B) now.units in
      let own : StartUnits j j (old ∷ B) = subst (λ t. StartUnits j t (old ∷ B)) (omega (arith, rows)) units.1 in
      let start : take j p ≡ zeros j = raised.start own in
      let new_start : take j new ≡ zeros j = take-map (K.mul k) j p ∙ ap (multiple K k) start
      ∙ multiple-zeros K h k j in
      let one : get_or new j 0 ≡ 1 = sym (multiple-at K k j p in_p) ∙ inv_mul K h a low raised.not_zero in
      let above : List (List ℕ) = map (row_remainder K j new) A in
      let below : List (List ℕ) = map (row_remainder K j new) B in
      let h_above : Matrix K j w above = cleared-matrix K h j w j new A hnew ha in
      let h_below : Matrix K m w below = cleared-matrix K h m w j new B hnew hb in
      let dot_new : (x : List ℕ) → dot K new x ≡ K.mul k (dot K p x) = λ x. multiple-dot K h k p x in
      record {
        matrix = from_matrix K n w (above ++ new ∷ below) (subst (λ t. Matrix K t w (above ++ new ∷ below)) (sym size)
            (append-matrix K j (suc m) w above (new ∷ below) h_above (hnew, h_below)));
        there = λ x z.
            let parts : Annihilate K A x × Annihilate K (old ∷ B) x = kills-append K A (old ∷ B) x (now.there x z) in
            let none : dot K new x ≡ 0 = dot_new x ∙ ap (K.mul k) (raised.same x parts.1.1 ∙ parts.1.0)
            ∙ mul_zero K h k in
            kills-join K above (new ∷ below) x (kills-cleared j w j new A x hnew ha none parts.0)
            (none, kills-cleared m w j new B x hnew hb none parts.1.1);
        back = λ x z.
            let parts : Annihilate K above x × Annihilate K (new ∷ below) x = kills-append K above (new ∷ below) x z in
            let none : dot K new x ≡ 0 = parts.1.0 in
            let kills_below : Annihilate K B x = kills-uncleared m w j new B x hnew hb none parts.1.1 in
            let on_p : dot K p x ≡ 0 =
            sym (mul_inv_mul K h a (dot K p x) low raised.not_zero (dot-below K h p x))
            ∙ ap (K.mul a) (sym (dot_new x) ∙ none) ∙ mul_zero K h a in
            now.back x (kills-join K A (old ∷ B) x (kills-uncleared j w j new A x hnew ha none parts.0)
            (sym (raised.same x kills_below) ∙ on_p, kills_below));
        units =
            let place : 0 + length above ≡ j = omega (arith, matrix-size K j w above h_above) in
            subst (λ t. StartUnits t 0 (above ++ new ∷ below)) (sym (add-one j))
            (units-join (suc j) 0 above (new ∷ below)
            (units-cleared j w j 0 new A hnew ha inside (λ i low_i e. absurd (omega (arith, rows))) units.0 new_start
            one)
            (subst (λ t. StartUnits (suc j) t (new ∷ below)) (sym place) (
              pivot-multiple w j p hp inside start raised.not_zero,
              units-cleared m w j (suc j) new B hnew hb inside (λ i low_i e. absurd (omega arith)) own.1 new_start one,
            )));
      }

  pub column-written : (n j : ℕ) (rows above pivot below raised new above' below' : List ℕ) (inverse : ℕ) → j < n
      → length rows ≡ n * (2 * n) → AllScalars K rows
      → rows ≡ above ++ (pivot ++ below) → length above ≡ j * (2 * n) → length pivot ≡ 2 * n
      → IsRaised K j (length pivot) (cut ((n - j) - 1) (length pivot) below) pivot raised
      → inverse ≡ K.inv (get_or raised j 0) → new ≡ multiple K inverse raised
      → cut j (length new) above' ≡ map (row_remainder K j new) (cut j (length new) above)
      → cut ((n - j) - 1) (length new) below' ≡ map (row_remainder K j new) (cut ((n - j) - 1) (length new) below)
      → length above' ≡ length above
      → (before : List (List ℕ)) → HasUnitColumns K n j before (cut n (2 * n) rows)
      → HasUnitColumns K n (j + 1) before (cut n (2 * n) (above' ++ (new ++ below')))
  column-written n j rows above pivot below raised new above' below' inverse l full scalars is ea ep is_raised
      is_inverse is_new is_above is_below same before now =
      let w : ℕ = 2 * n in
      let k : ℕ = (n - j) - 1 in
      let is_scaled : new ≡ multiple K (K.inv (get_or raised j 0)) raised = is_new
      ∙ ap (λ t. multiple K t raised) is_inverse in
      let up : IsRaised K j w (cut k w below) pivot raised = subst (λ t. IsRaised K j t (cut k t below) pivot raised) ep
      is_raised in
      let width : length new ≡ w = ap length is_new ∙ length-map raised (K.mul inverse) ∙ up.vector.size in
      let three : AllScalars K above × AllScalars K below = (
        front_all (λ a. a < K.order) above (pivot ++ below) (subst (AllScalars K) is scalars),
        back_all (λ a. a < K.order) pivot below
            (back_all (λ a. a < K.order) above (pivot ++ below) (subst (AllScalars K) is scalars)),
      ) in
      subst (HasUnitColumns K n (j + 1) before)
      (ap (λ p. map (row_remainder K j p) (cut j w above) ++ p ∷ map (row_remainder K j p) (cut k w below))
      (sym is_scaled)
      ∙ ap₂ (λ A B. A ++ new ∷ B)
      (sym (subst (λ t. cut j t above' ≡ map (row_remainder K j new) (cut j t above)) width is_above))
      (sym (subst (λ t. cut k t below' ≡ map (row_remainder K j new) (cut k t below)) width is_below))
      ∙ sym (cut-three n j k w above' new below' (omega arith) (same ∙ ea) width))
      (column-cleared n j k (cut j w above) (cut k w below) pivot raised (omega arith)
      (cut-matrix K j w above ea three.0) (cut-matrix K k w below (below-size n j rows above pivot below l full is ea ep
      ∙ ap (λ t. k * t) ep) three.1)
      up before (subst (HasUnitColumns K n j before) (from_pivot n j rows above pivot below l is ea ep) now))

  -- a pivot whose entry is not 0 stays
  pub raised-same : (n j : ℕ) (B : List (List ℕ)) (p : List ℕ) → Vector K n p → get_or p j 0 ≢ 0 → IsRaised K j n B p p
  raised-same n j B p hp not = record {
    vector = from_vector K n p hp;
    same = λ x z. refl;
    start = λ u. u.0 ∙ unit-past j j (omega arith);
    not_zero = not;
  }

  -- a pivot whose entry is 0 gets that of a row below
  pub raised-added : (m n j i : ℕ) (B : List (List ℕ)) (p : List ℕ) → Vector K n p → Matrix K m n B → i < m → j < n
      → get_or p j 0 ≡ 0 → get_or (get_or B i []) j 0 ≢ 0
      → IsRaised K j n B p (plus K p (multiple K 1 (get_or B i [])))
  raised-added m n j i B p hp hb l lj none not =
      let r : List ℕ = get_or B i [] in
      let hr : Vector K n r = row-vector K m n B i hb l in
      let h1 : Vector K n (multiple K 1 r) = multiple-vector K h n 1 r hr in
      let inside : i < length B = omega (arith, matrix-size K m n B hb) in
      let size : length r ≡ length p = vector-size K n r hr ∙ sym (vector-size K n p hp) in
      let in_p : j < length p = omega (arith, vector-size K n p hp) in
      let low : get_or r j 0 < K.order = All-get_or (λ b. b < K.order) r j 0 (omega (arith, size))
      (vector-scalars K n r hr) in
      record {
        vector = from_vector K n (plus K p (multiple K 1 r)) (plus-vector K h n p (multiple K 1 r) hp h1);
        same = λ x z.
            plus-dot K h n p (multiple K 1 r) x hp h1
            ∙ ap (K.add (dot K p x)) (multiple-dot K h 1 r x ∙ ap (K.mul 1) (kills-at K B x i z inside)
            ∙ mul_zero K h 1)
            ∙ h.add_zero (dot K p x) (dot-below K h p x);
        start = λ u.
            take-plus K j p (multiple K 1 r)
            ∙ ap₂ (plus K) (u.0 ∙ unit-past j j (omega arith))
            (take-map (K.mul 1) j r ∙ ap (multiple K 1) (units-at j (suc j) i B u.1 inside
            ∙ unit-past j (suc j + i) (omega arith)) ∙ multiple-zeros K h 1 j)
            ∙ zeros-plus-zeros K h j;
        not_zero = λ e. not
            (sym (zero_add K h (get_or r j 0) low) ∙ ap₂ K.add (sym none) (sym (one_mul K h (get_or r j 0) low))
            ∙ plus-multiple-at K 1 j p r size in_p ∙ e);
      }
