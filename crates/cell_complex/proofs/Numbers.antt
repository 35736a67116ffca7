-- Rising lists of numbers, filtered and joined.
use Rattle.std.proofs.Common.{◌≡◌, ◌≢◌, ℕ, zero, suc, ◌+◌, ◌<◌, ◌≤◌, Bool, true, false, cond, ◌&&◌, ◌||◌, ⊎_elim}
use Rattle.std.proofs.Common.{nat_eq, nat_lt, List, [], ◌∷◌, length, map, get_or, set, filter, All, insert, refl, sym}
use Rattle.std.proofs.Common.{ap, ap₂, ◌∙◌, subst, arith}
use Rattle.std.specs.List.{AllWithin, list_any, range_with_len}
use Rattle.std.specs.List.Sorted.{IsStrictlyIncreasing, IsNonDecreasing}
use Rattle.std.proofs.lemmas.Bool.{eq-eqb, ne_eqb, eqb-true, lt-ltb, or_from, or_left, cases_eq, cond-true, cond-false}
use Rattle.std.proofs.lemmas.Cmp.{nat_eq_equiv}
use Rattle.std.proofs.lemmas.List.{get_or-set_same, get_or-set_other, length-set}
use Rattle.std.proofs.lemmas.List.Elements.{All-head, All-tail, All-cons, All-weaker, All-filter, Contains-get_or}
use Rattle.std.proofs.lemmas.List.FromFn.{length-range_with_len, get_or-range_with_len, length-map-range_with_len}
use Rattle.std.proofs.lemmas.List.FromFn.{get_or-map-range_with_len, fill_by_all}
use Rattle.std.proofs.lemmas.List.Kept.{AllPairs-from_increasing}
use Rattle.std.proofs.lemmas.Map.Keys.{sorted_from_strictly_increasing, non_decreasing_from_sorted}
use Rattle.std.proofs.lemmas.Map.Views.{list_any-from_Contains, any-filter_same}
use Rattle.cell_complex.specs.Common.{common}
use Rattle.cell_complex.specs.Neighbours.{with_cell}

-- two tests that agree on the elements keep the same
filter_agree_on : {X : Type 0} (p q : X → Bool) (xs : List X) → All (λ x. p x ≡ q x) xs → filter p xs ≡ filter q xs
filter_agree_on p q [] h = refl
filter_agree_on p q (x ∷ xs) h =
    ap₂ (λ b t. cond b (x ∷ t) t) (All-head (λ x. p x ≡ q x) x xs h)
    (filter_agree_on p q xs (All-tail (λ x. p x ≡ q x) x xs h))

-- a filter of a filter keeps what passes both tests
pub filter-filter : {X : Type 0} (p q : X → Bool) (xs : List X) → filter q (filter p xs) ≡ filter (λ x. p x && q x) xs
filter-filter p q [] = refl
filter-filter {X} p q (x ∷ xs) = by (p x) (filter-filter p q xs)
  where
    by : (b : Bool) → filter q (filter p xs) ≡ filter (λ x. p x && q x) xs
        → filter q (cond b (x ∷ filter p xs) (filter p xs)) ≡ cond (b && q x) (x ∷ filter (λ x. p x && q x) xs)
        (filter (λ x. p x && q x) xs)
    by true h = ap (λ t. cond (q x) (x ∷ t) t) h
    by false h = h

-- the numbers from a on rise, from a on
pub rising-range : (a n : ℕ) → IsStrictlyIncreasing (range_with_len a n)
rising-range a n k l =
    let within : k + 1 < n = subst (λ m. k + 1 < m) (length-range_with_len a n) l in
    omega (arith, get_or-range_with_len a n k 0 (omega arith), get_or-range_with_len a n (k + 1) 0 within)

range-from : (a n : ℕ) → All (λ y. a ≤ y) (range_with_len a n)
range-from a n k d l =
    let within : k < n = subst (λ m. k < m) (length-range_with_len a n) l in
    omega (arith, get_or-range_with_len a n k d within)

pub range-below : (a n : ℕ) → All (λ y. y < a + n) (range_with_len a n)
range-below a n k d l =
    let within : k < n = subst (λ m. k < m) (length-range_with_len a n) l in
    omega (arith, get_or-range_with_len a n k d within)

rising-tail : (x : ℕ) (xs : List ℕ) → IsStrictlyIncreasing (x ∷ xs) → IsStrictlyIncreasing xs
rising-tail x xs h k l =
    let e : suc k + 1 ≡ suc (k + 1) = omega arith in
    subst (λ j. get_or xs k 0 < get_or (x ∷ xs) j 0) e (h (suc k) (omega arith))

rising-above : (x : ℕ) (xs : List ℕ) → IsStrictlyIncreasing (x ∷ xs) → All (λ y. x < y) xs
rising-above x xs h k d l = AllPairs-from_increasing (x ∷ xs) h zero (suc k) d (omega arith) (omega arith)

pub non_decreasing : (xs : List ℕ) → IsStrictlyIncreasing xs → IsNonDecreasing xs
non_decreasing xs h = non_decreasing_from_sorted xs (sorted_from_strictly_increasing xs h)

-- an insert between what is below x and what is not
pub insert-with_cell : (x : ℕ) (xs : List ℕ) (i : ℕ) → i ≤ length xs → AllWithin (λ y. nat_lt y x ≡ true) xs 0 i
    → AllWithin (λ y. nat_lt y x ≡ false) xs i (length xs) → insert xs i x ≡ with_cell x xs
insert-with_cell x [] zero within low high = refl
insert-with_cell x [] (suc i) within low high = absurd (omega arith)
insert-with_cell x (y ∷ ys) zero within low high =
    sym (cond-false (nat_lt y x) (y ∷ with_cell x ys) (x ∷ y ∷ ys) (high 0 0 (omega arith) (omega arith)))
insert-with_cell x (y ∷ ys) (suc i) within low high =
    ap (λ t. y ∷ t) (insert-with_cell x ys i (omega arith)
    (λ k d a b. low (suc k) d (omega arith) (omega arith)) (λ k d a b. high (suc k) d (omega arith) (omega arith)))
    ∙ sym (cond-true (nat_lt y x) (y ∷ with_cell x ys) (x ∷ y ∷ ys) (low 0 0 (omega arith) (omega arith)))

with_cell-first : (x : ℕ) (xs : List ℕ) → All (λ y. x < y) xs → with_cell x xs ≡ x ∷ xs
with_cell-first x [] h = refl
with_cell-first x (y ∷ ys) h =
    let above : x < y = All-head (λ y. x < y) y ys h in
    cond-false (nat_lt y x) (y ∷ with_cell x ys) (x ∷ y ∷ ys) (le-ltb' y x above)
  where
    le-ltb' : (y x : ℕ) → x < y → nat_lt y x ≡ false
    le-ltb' y x l = grind arith

-- where q passes x beside what p passes
pub with_cell-filter : (p q : ℕ → Bool) (x : ℕ) → p x ≡ false → q x ≡ true → ((y : ℕ) → y ≢ x → q y ≡ p y)
    → (a n : ℕ) → a ≤ x → x < a + n → with_cell x (filter p (range_with_len a n)) ≡ filter q (range_with_len a n)
with_cell-filter p q x without within others a zero low high = absurd (omega arith)
with_cell-filter p q x without within others a (suc n) low high = ⊎_elim here
    (λ (ne : a ≢ x). later ne (with_cell-filter p q x without within others (a + 1) n (omega arith) (omega arith)))
    (cases_eq a x)
  where
    rest : List ℕ
    rest = range_with_len (a + 1) n

    here : a ≡ x → with_cell x (filter p (range_with_len a (suc n))) ≡ filter q (range_with_len a (suc n))
    here e =
        let above : All (λ y. x < y) rest = All-weaker (λ y. a + 1 ≤ y) (λ y. x < y) (λ y l. omega arith) rest
        (range-from (a + 1) n) in
        let same : filter p rest ≡ filter q rest =
        filter_agree_on p q rest (All-weaker (λ y. x < y) (λ y. p y ≡ q y) (λ y l. sym (others y (omega arith)))
        rest above) in
        ap (with_cell x) (cond-false (p a) (a ∷ filter p rest) (filter p rest) (ap p e ∙ without))
        ∙ with_cell-first x (filter p rest) (All-filter p (λ y. x < y) rest above)
        ∙ ap₂ (λ y t. y ∷ t) (sym e) same
        ∙ sym (cond-true (q a) (a ∷ filter q rest) (filter q rest) (ap q e ∙ within))

    later : a ≢ x → with_cell x (filter p rest) ≡ filter q rest → with_cell x (filter p (range_with_len a (suc n)))
        ≡ filter q (range_with_len a (suc n))
    later ne h = by (p a) (q a) (others a ne) h
      where
        by : (b c : Bool) → c ≡ b → with_cell x (filter p rest) ≡ filter q rest
            → with_cell x (cond b (a ∷ filter p rest) (filter p rest)) ≡ cond c (a ∷ filter q rest) (filter q rest)
        by true c e h =
            cond-true (nat_lt a x) (a ∷ with_cell x (filter p rest)) (x ∷ a ∷ filter p rest) (lt-ltb a x (omega arith))
            ∙ ap (λ t. a ∷ t) h ∙ sym (cond-true c (a ∷ filter q rest) (filter q rest) e)
        by false c e h = h ∙ sym (cond-false c (a ∷ filter q rest) (filter q rest) e)

-- a write into a list made by f makes that by g, where they agree elsewhere
pub set-map-range : {X : Type 0} (f g : ℕ → X) (n i : ℕ) (x : X) → i < n → g i ≡ x → ((k : ℕ) → k ≢ i → g k ≡ f k)
    → set (map f (range_with_len 0 n)) i x ≡ map g (range_with_len 0 n)
set-map-range f g n i x within here others =
    let xs = map f (range_with_len 0 n) in
    let size : length xs ≡ n = length-map-range_with_len f 0 n in
    fill_by_all g (set xs i x) n x (length-set xs i x ∙ size) (λ k l. ⊎_elim
    (λ (e : k ≡ i). ap (λ j. get_or (set xs i x) j x) e ∙ get_or-set_same xs i x x (omega arith) ∙ sym here
    ∙ ap g (sym e))
    (λ (ne : k ≢ i). get_or-set_other xs i k x x ne ∙ get_or-map-range_with_len f 0 n k k x l (omega arith)
    ∙ sym (others k ne))
    (cases_eq k i))

-- what a rising list has in common with another, from the first elements on
list_any-above : (x : ℕ) (xs : List ℕ) → All (λ y. x < y) xs → list_any (λ y. nat_eq x y) xs ≡ false
list_any-above x [] h = refl
list_any-above x (y ∷ ys) h =
    or_from (nat_eq x y) (list_any (λ y. nat_eq x y) ys)
    (ne_eqb x y (λ e. let l : x < y = All-head (λ y. x < y) y ys h in omega arith))
    (list_any-above x ys (All-tail (λ y. x < y) y ys h))

common-nil : (xs : List ℕ) → common xs [] ≡ []
common-nil [] = refl
common-nil (x ∷ xs) = common-nil xs

pub common-none : (xs ys : List ℕ) → length ys ≡ 0 → common xs ys ≡ []
common-none xs [] e = common-nil xs
common-none xs (y ∷ ys) e = absurd (omega arith)

common-left : (x : ℕ) (xs ys : List ℕ) → All (λ y. x < y) ys → common (x ∷ xs) ys ≡ common xs ys
common-left x xs ys h = cond-false (list_any (λ y. nat_eq x y) ys) (x ∷ common xs ys) (common xs ys)
    (list_any-above x ys h)

common-right : (xs : List ℕ) (y : ℕ) (ys : List ℕ) → All (λ x. y < x) xs → common xs (y ∷ ys) ≡ common xs ys
common-right xs y ys h =
    filter_agree_on (λ x. nat_eq x y || list_any (λ z. nat_eq x z) ys) (λ x. list_any (λ z. nat_eq x z) ys) xs
    (All-weaker (λ x. y < x) (λ x. (nat_eq x y || list_any (λ z. nat_eq x z) ys) ≡ list_any (λ z. nat_eq x z) ys)
    (λ x l. ap (λ b. b || list_any (λ z. nat_eq x z) ys) (ne_eqb x y (λ e. omega arith))) xs h)

common-both : (x : ℕ) (xs ys : List ℕ) → All (λ y. x < y) xs → common (x ∷ xs) (x ∷ ys) ≡ x ∷ common xs ys
common-both x xs ys h =
    cond-true (nat_eq x x || list_any (λ y. nat_eq x y) ys) (x ∷ common xs (x ∷ ys)) (common xs (x ∷ ys))
    (or_left (nat_eq x x) (list_any (λ y. nat_eq x y) ys) (eq-eqb x x refl))
    ∙ ap (λ t. x ∷ t) (common-right xs x ys h)

-- what two filters of one list have in common passes both tests
pub common-filter : (p q : ℕ → Bool) (xs : List ℕ) → common (filter p xs) (filter q xs) ≡ filter (λ x. p x && q x) xs
common-filter p q xs =
    let inside : ℕ → Bool = λ x. list_any (λ y. nat_eq x y) (filter q xs) in
    filter-filter p inside xs
    ∙ filter_agree_on (λ x. p x && inside x) (λ x. p x && q x) xs
    (λ k d l. ap (λ b. p (get_or xs k d) && b)
    (passes (get_or xs k d) (list_any-from_Contains nat_eq_equiv (get_or xs k d) xs
    (Contains-get_or xs k d l))))
  where
    passes : (x : ℕ) → list_any (nat_eq x) xs ≡ true → list_any (λ y. nat_eq x y) (filter q xs) ≡ q x
    passes x there =
        any-filter_same (nat_eq x) q (q x) (λ k e. ap q (sym (eqb-true x k e))) xs
        ∙ ap (λ b. q x && b) there ∙ and-true (q x)
      where
        and-true : (b : Bool) → (b && true) ≡ b
        and-true true = refl
        and-true false = refl

-- one turn of a merge of two rising lists, by their first elements
module _ (xs ys : List ℕ) (x y : ℕ) (xs' ys' : List ℕ) (left : xs ≡ x ∷ xs') (right : ys ≡ y ∷ ys') where
  pub common-less : IsStrictlyIncreasing ys → x < y → common xs ys ≡ common xs' ys
  common-less rise l =
      let above : All (λ z. x < z) ys' = All-weaker (λ z. y < z) (λ z. x < z) (λ z m. omega arith) ys'
      (rising-above y ys' (subst IsStrictlyIncreasing right rise)) in
      ap (λ s. common s ys) left
      ∙ common-left x xs' ys (subst (λ s. All (λ z. x < z) s) (sym right) (All-cons (λ z. x < z) y ys' l above))

  pub common-greater : IsStrictlyIncreasing xs → y < x → common xs ys ≡ common xs ys'
  common-greater rise l =
      let above : All (λ z. y < z) xs' = All-weaker (λ z. x < z) (λ z. y < z) (λ z m. omega arith) xs'
      (rising-above x xs' (subst IsStrictlyIncreasing left rise)) in
      ap (common xs) right
      ∙ common-right xs y ys' (subst (λ s. All (λ z. y < z) s) (sym left) (All-cons (λ z. y < z) x xs' l above))

  pub common-equal : IsStrictlyIncreasing xs → x ≡ y → common xs ys ≡ x ∷ common xs' ys'
  common-equal rise e =
      ap₂ common left (right ∙ ap (λ z. z ∷ ys') (sym e))
      ∙ common-both x xs' ys' (rising-above x xs' (subst IsStrictlyIncreasing left rise))

pub rising-rest : (xs : List ℕ) (x : ℕ) (xs' : List ℕ) → xs ≡ x ∷ xs' → IsStrictlyIncreasing xs
    → IsStrictlyIncreasing xs'
rising-rest xs x xs' e rise = rising-tail x xs' (subst IsStrictlyIncreasing e rise)
