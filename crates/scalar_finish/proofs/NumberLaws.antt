-- The cells of coordinates: how many, with which numbers, and what each of them has.
use Rattle.std.proofs.Common.{◌≡◌, ◌≢◌, ℕ, zero, suc, ◌<◌, ◌≤◌, ◌+◌, ◌-◌, Bool, true, false, cond, ◌||◌, refl, sym, ap, ap₂}
use Rattle.std.proofs.Common.{◌∙◌, subst, arith, ◌⊎◌, inl, inr, List, [], ◌∷◌, ◌++◌, length, get_or, take, eqb}
use Rattle.std.proofs.Common.{All, length-append, append_assoc, append-nil, zero-add, add-one}
use Rattle.std.proofs.lemmas.Bool.{eq-eqb, ne_eqb, eqb-true, cases_eq, cases_lt}
use Rattle.std.proofs.lemmas.List.{map-append}
use Rattle.std.proofs.lemmas.List.Elements.{All-append, All-nil, All-head, All-tail}
use Rattle.rising_lists.specs.Rising.{IsRising, has}
use Rattle.rising_lists.proofs.Keyed.{rising_tail, head-absent}
use Rattle.block_complexes.specs.BlockComplexes.{cells, of_cell, degree_of, size_of, live_size}
use Rattle.block_sparse.specs.StoredBlocks.{AreLive}
use Rattle.scalar_finish.specs.Splits.{unit_cells, coordinate_cells, first_coordinate}

-- ---- one cell more

pub length-units : (n k m : ℕ) → length (unit_cells n k m) ≡ m
length-units n k zero = refl
length-units n k (suc m) = ap suc (length-units (n + 1) k m)

pub units-next : (n k m : ℕ) → unit_cells n k (suc m) ≡ unit_cells n k m ++ (n + m, k, 1) ∷ []
units-next n k zero = let e : n ≡ n + 0 = omega arith in ap (λ j. (j, k, 1) ∷ []) e
units-next n k (suc m) =
    let e : n + 1 + m ≡ n + suc m = omega arith in
    ap (λ ls. (n, k, 1) ∷ ls) (units-next (n + 1) k m ∙ ap (λ j. unit_cells (n + 1) k m ++ (j, k, 1) ∷ []) e)

pub coordinates-next : (n : ℕ) (live : List (ℕ × ℕ × ℕ)) (i : ℕ) → i < length live
    → coordinate_cells n (take (suc i) live) ≡ coordinate_cells n (take i live)
    ++ unit_cells (n + live_size (take i live)) (get_or live i (0, 0, 0)).1 (get_or live i (0, 0, 0)).2
coordinates-next n [] i l = absurd (omega arith)
coordinates-next n (x ∷ xs) zero l =
    let e : n ≡ n + 0 = omega arith in append-nil (unit_cells n x.1 x.2) ∙ ap (λ j. unit_cells j x.1 x.2) e
coordinates-next n (x ∷ xs) (suc i) l =
    let k : ℕ = (get_or xs i (0, 0, 0)).1 in
    let m : ℕ = (get_or xs i (0, 0, 0)).2 in
    let e : n + x.2 + live_size (take i xs) ≡ n + (x.2 + live_size (take i xs)) = omega arith in
    ap (λ ls. unit_cells n x.1 x.2 ++ ls)
    (coordinates-next (n + x.2) xs i (omega arith)
    ∙ ap (λ j. coordinate_cells (n + x.2) (take i xs) ++ unit_cells j k m) e)
    ∙ sym (append_assoc (unit_cells n x.1 x.2) (coordinate_cells (n + x.2) (take i xs))
    (unit_cells (n + (x.2 + live_size (take i xs))) k m))

pub length-coordinates : (n : ℕ) (live : List (ℕ × ℕ × ℕ)) → length (coordinate_cells n live) ≡ live_size live
length-coordinates n [] = refl
length-coordinates n (l ∷ ls) =
    length-append (unit_cells n l.1 l.2) (coordinate_cells (n + l.2) ls)
    ∙ ap₂ ◌+◌ (length-units n l.1 l.2) (length-coordinates (n + l.2) ls)

-- as loops push them
pub units-push : (first old new : List (ℕ × ℕ × ℕ)) (k i number : ℕ) → old ≡ first ++ unit_cells (length first) k i
    → number ≡ length old → new ≡ old ++ (number, k, 1) ∷ [] → new ≡ first ++ unit_cells (length first) k (i + 1)
units-push first old new k i number e at f =
    let n = length first in
    let size : number ≡ n + i =
    at ∙ ap length e ∙ length-append first (unit_cells n k i) ∙ ap (λ m. n + m) (length-units n k i) in
    f ∙ ap₂ (λ ls j. ls ++ (j, k, 1) ∷ []) e size
    ∙ append_assoc first (unit_cells n k i) ((n + i, k, 1) ∷ [])
    ∙ ap (λ ls. first ++ ls) (sym (units-next n k i))
    ∙ ap (λ m. first ++ unit_cells n k m) (sym (add-one i))

pub coordinates-push : (live : List (ℕ × ℕ × ℕ)) (i : ℕ) (old new : List (ℕ × ℕ × ℕ)) → i < length live
    → old ≡ coordinate_cells 0 (take i live)
    → new ≡ old ++ unit_cells (length old) (get_or live i (0, 0, 0)).1 (get_or live i (0, 0, 0)).2
    → new ≡ coordinate_cells 0 (take (i + 1) live)
coordinates-push live i old new l e f =
    let k : ℕ = (get_or live i (0, 0, 0)).1 in
    let m : ℕ = (get_or live i (0, 0, 0)).2 in
    let done = coordinate_cells 0 (take i live) in
    f ∙ ap (λ ls. ls ++ unit_cells (length ls) k m) e
    ∙ ap (λ n. done ++ unit_cells n k m)
    (length-coordinates 0 (take i live) ∙ sym (zero-add (live_size (take i live))))
    ∙ sym (coordinates-next 0 live i l)
    ∙ ap (λ n. coordinate_cells 0 (take n live)) (sym (add-one i))

-- ---- the numbers

-- m numbers from n on
abbrev pub numbers_from : ℕ → ℕ → List ℕ
numbers_from n zero = []
numbers_from n (suc m) = n ∷ numbers_from (n + 1) m

pub length-numbers : (n m : ℕ) → length (numbers_from n m) ≡ m
length-numbers n zero = refl
length-numbers n (suc m) = ap suc (length-numbers (n + 1) m)

number-at : (n m i : ℕ) → i < m → get_or (numbers_from n m) i 0 ≡ n + i
number-at n zero i l = absurd (omega arith)
number-at n (suc m) zero l = omega arith
number-at n (suc m) (suc i) l = omega (arith, number-at (n + 1) m i (omega arith))

pub numbers-rise : (n m : ℕ) → IsRising (numbers_from n m)
numbers-rise n m i j l h =
    let size = length-numbers n m in
    omega (arith, number-at n m i (omega arith), number-at n m j (omega arith))

pub has-number : (n m i : ℕ) → n ≤ i → i < n + m → has i (numbers_from n m) ≡ true
has-number n zero i l h = absurd (omega arith)
has-number n (suc m) i l h = go (cases_eq n i) (has-number (n + 1) m i)
  where
    go : (n ≡ i) ⊎ (n ≡ i → ⊥)
        → (n + 1 ≤ i → i < n + 1 + m → has i (numbers_from (n + 1) m) ≡ true)
        → (eqb n i || has i (numbers_from (n + 1) m)) ≡ true
    go (inl e) later = ap (λ b. b || has i (numbers_from (n + 1) m)) (eq-eqb n i e)
    go (inr a) later =
        ap (λ b. b || has i (numbers_from (n + 1) m)) (ne_eqb n i a) ∙ later (omega arith) (omega arith)

pub number-within : (n m i : ℕ) → has i (numbers_from n m) ≡ true → (n ≤ i) × (i < n + m)
number-within n zero i h = cc
number-within n (suc m) i h = go (cases_eq n i) h (number-within (n + 1) m i)
  where
    go : (n ≡ i) ⊎ (n ≡ i → ⊥) → (eqb n i || has i (numbers_from (n + 1) m)) ≡ true
        → (has i (numbers_from (n + 1) m) ≡ true → (n + 1 ≤ i) × (i < n + 1 + m)) → (n ≤ i) × (i < n + suc m)
    go (inl e) k later = (omega arith, omega arith)
    go (inr a) k later =
        let r = later (sym (ap (λ b. b || has i (numbers_from (n + 1) m)) (ne_eqb n i a)) ∙ k) in
        (omega (arith, r.0), omega (arith, r.1))

numbers-append : (n a b : ℕ) → numbers_from n (a + b) ≡ numbers_from n a ++ numbers_from (n + a) b
numbers-append n zero b =
    let e : 0 + b ≡ b = omega arith in let f : n ≡ n + 0 = omega arith in ap₂ numbers_from f e
numbers-append n (suc a) b =
    let e : suc a + b ≡ suc (a + b) = omega arith in
    let f : n + 1 + a ≡ n + suc a = omega arith in
    ap (numbers_from n) e
    ∙ ap (λ ks. n ∷ ks) (numbers-append (n + 1) a b ∙ ap (λ j. numbers_from (n + 1) a ++ numbers_from j b) f)

cells-units : (n k m : ℕ) → cells (unit_cells n k m) ≡ numbers_from n m
cells-units n k zero = refl
cells-units n k (suc m) = ap (λ ks. n ∷ ks) (cells-units (n + 1) k m)

pub cells-coordinates : (n : ℕ) (live : List (ℕ × ℕ × ℕ)) → cells (coordinate_cells n live)
    ≡ numbers_from n (live_size live)
cells-coordinates n [] = refl
cells-coordinates n (l ∷ ls) =
    map-append (λ l. l.0) (unit_cells n l.1 l.2) (coordinate_cells (n + l.2) ls)
    ∙ ap₂ ◌++◌ (cells-units n l.1 l.2) (cells-coordinates (n + l.2) ls)
    ∙ sym (numbers-append n l.2 (live_size ls))

pub coordinates-rise : (n : ℕ) (live : List (ℕ × ℕ × ℕ)) → IsRising (cells (coordinate_cells n live))
coordinates-rise n live = subst IsRising (sym (cells-coordinates n live)) (numbers-rise n (live_size live))

-- ---- what they have

size-append : (ls ms : List (ℕ × ℕ × ℕ)) → live_size (ls ++ ms) ≡ live_size ls + live_size ms
size-append [] ms = omega arith
size-append (l ∷ ls) ms = omega (arith, size-append ls ms)

size-units : (n k m : ℕ) → live_size (unit_cells n k m) ≡ m
size-units n k zero = refl
size-units n k (suc m) = omega (arith, size-units (n + 1) k m)

size-coordinates : (n : ℕ) (live : List (ℕ × ℕ × ℕ)) → live_size (coordinate_cells n live) ≡ live_size live
size-coordinates n [] = refl
size-coordinates n (l ∷ ls) =
    size-append (unit_cells n l.1 l.2) (coordinate_cells (n + l.2) ls)
    ∙ ap₂ ◌+◌ (size-units n l.1 l.2) (size-coordinates (n + l.2) ls)

-- what all cells have, all coordinates have
module _ (P : ℕ × ℕ × ℕ → Type 0) where
  all-units : (n k m : ℕ) → ((j : ℕ) → P (j, k, 1)) → All P (unit_cells n k m)
  all-units n k zero h i d l = absurd (omega arith)
  all-units n k (suc m) h zero d l = h n
  all-units n k (suc m) h (suc i) d l = all-units (n + 1) k m h i d (omega arith)

  pub all-coordinates : (Q : ℕ × ℕ × ℕ → Type 0) → ((l : ℕ × ℕ × ℕ) (j : ℕ) → Q l → P (j, l.1, 1)) → (n : ℕ)
      (live : List (ℕ × ℕ × ℕ)) → All Q live → All P (coordinate_cells n live)
  all-coordinates Q f n [] h = All-nil P
  all-coordinates Q f n (l ∷ ls) h =
      All-append P (unit_cells n l.1 l.2) (coordinate_cells (n + l.2) ls)
      (all-units n l.1 l.2 (λ j. f l j (All-head Q l ls h)))
      (all-coordinates Q f (n + l.2) ls (All-tail Q l ls h))

pub coordinates-live : (live : List (ℕ × ℕ × ℕ)) → AreLive live → AreLive (coordinate_cells 0 live)
coordinates-live live h = record {
  rising = coordinates-rise 0 live;
  degrees = all-coordinates (λ l. l.1 ≤ 15) (λ l. l.1 ≤ 15) (λ l j q. q) 0 live h.degrees;
  sizes = all-coordinates (λ l. 1 ≤ l.2) (λ l. 1 ≤ l.2) (λ l j q. omega arith) 0 live h.sizes;
  total = let e = size-coordinates 0 live in let t = h.total in omega arith;
}

-- ---- the number of a coordinate

units-at : (number : ℕ × ℕ × ℕ → ℕ) (n k m p j : ℕ) (rest : List (ℕ × ℕ × ℕ)) → j ≡ n + p → p < m
    → of_cell number (unit_cells n k m ++ rest) j ≡ number (j, k, 1)
units-at number n k zero p j rest e l = absurd (omega arith)
units-at number n k (suc m) zero j rest e l =
    let f : n ≡ j = omega arith in
    ap (λ b. cond b (number (n, k, 1)) (of_cell number (unit_cells (n + 1) k m ++ rest) j)) (eq-eqb n j f)
    ∙ ap (λ i. number (i, k, 1)) f
units-at number n k (suc m) (suc p) j rest e l =
    let f : n ≢ j = omega arith in
    ap (λ b. cond b (number (n, k, 1)) (of_cell number (unit_cells (n + 1) k m ++ rest) j)) (ne_eqb n j f)
    ∙ units-at number (n + 1) k m p j rest (omega arith) (omega arith)

units-before : (number : ℕ × ℕ × ℕ → ℕ) (n k m j : ℕ) (rest : List (ℕ × ℕ × ℕ)) → n + m ≤ j
    → of_cell number (unit_cells n k m ++ rest) j ≡ of_cell number rest j
units-before number n k zero j rest l = refl
units-before number n k (suc m) j rest l =
    let f : n ≢ j = omega arith in
    ap (λ b. cond b (number (n, k, 1)) (of_cell number (unit_cells (n + 1) k m ++ rest) j)) (ne_eqb n j f)
    ∙ units-before number (n + 1) k m j rest (omega arith)

-- coordinate p of the cell s has the number j
pub record IsNumber (n : ℕ) (live : List (ℕ × ℕ × ℕ)) (s p j : ℕ) : Type 0 where
  pub is_live : has s (cells live) ≡ true
  pub place : p < size_of live s
  pub number : j ≡ n + (first_coordinate live s + p)

pub first-within : (live : List (ℕ × ℕ × ℕ)) (s : ℕ) → has s (cells live) ≡ true
    → first_coordinate live s + size_of live s ≤ live_size live
first-within [] s h = cc
first-within (l ∷ ls) s h = go (eqb l.0 s) h (first-within ls s)
  where
    go : (b : Bool) → (b || has s (cells ls)) ≡ true
        → (has s (cells ls) ≡ true → first_coordinate ls s + size_of ls s ≤ live_size ls)
        → cond b 0 (l.2 + first_coordinate ls s) + cond b l.2 (size_of ls s) ≤ l.2 + live_size ls
    go true m later = omega arith
    go false m later = let r = later m in omega arith

-- the cell of a coordinate
pub numbered : (number : ℕ × ℕ × ℕ → ℕ) (n : ℕ) (live : List (ℕ × ℕ × ℕ)) (s p j : ℕ) → IsNumber n live s p j
    → of_cell number (coordinate_cells n live) j ≡ number (j, degree_of live s, 1)
numbered number n [] s p j h = let e = h.is_live in cc
numbered number n (l ∷ ls) s p j h =
    go (eqb l.0 s) h.is_live h.place h.number (numbered number (n + l.2) ls s p j)
  where
    rest : List (ℕ × ℕ × ℕ)
    rest = coordinate_cells (n + l.2) ls

    go : (b : Bool) → (b || has s (cells ls)) ≡ true → p < cond b l.2 (size_of ls s)
        → j ≡ n + (cond b 0 (l.2 + first_coordinate ls s) + p)
        → (IsNumber (n + l.2) ls s p j → of_cell number rest j ≡ number (j, degree_of ls s, 1))
        → of_cell number (unit_cells n l.1 l.2 ++ rest) j ≡ number (j, cond b l.1 (degree_of ls s), 1)
    go true m q r later = units-at number n l.1 l.2 p j rest (omega arith) q
    go false m q r later = units-before number n l.1 l.2 j rest (omega arith)
        ∙ later (record { is_live = m; place = q; number = omega arith })

pub number-live : (n : ℕ) (live : List (ℕ × ℕ × ℕ)) (s p j : ℕ) → IsNumber n live s p j
    → has j (cells (coordinate_cells n live)) ≡ true
number-live n live s p j h =
    let w = first-within live s h.is_live in
    let q = h.place in
    let r = h.number in
    subst (λ ks. has j ks ≡ true) (sym (cells-coordinates n live))
    (has-number n (live_size live) j (omega arith) (omega arith))

-- each cell is one of a coordinate
pub record Coordinate (n : ℕ) (live : List (ℕ × ℕ × ℕ)) (j : ℕ) : Type 0 where
  pub cell : ℕ
  pub place : ℕ
  pub is : IsNumber n live cell place j

pub coordinate_of : (n : ℕ) (live : List (ℕ × ℕ × ℕ)) (j : ℕ) → IsRising (cells live) → n ≤ j → j < n + live_size live
    → Coordinate n live j
coordinate_of n [] j r l h = absurd (omega arith)
coordinate_of n (x ∷ xs) j r l h = go (cases_lt j (n + x.2)) (coordinate_of (n + x.2) xs j (rising_tail x.0 (cells xs) r))
  where
    here : (b : Bool) → b ≡ true → j < n + x.2 → ((b || has x.0 (cells xs)) ≡ true)
        × (j - n < cond b x.2 (size_of xs x.0)) × (j ≡ n + (cond b 0 (x.2 + first_coordinate xs x.0) + (j - n)))
    here true e k = (refl, omega arith, omega arith)
    here false e k = cc

    there : (c p : ℕ) (b : Bool) → b ≡ false → IsNumber (n + x.2) xs c p j → ((b || has c (cells xs)) ≡ true)
        × (p < cond b x.2 (size_of xs c)) × (j ≡ n + (cond b 0 (x.2 + first_coordinate xs c) + p))
    there c p true e k = cc
    there c p false e k = let m = k.number in (k.is_live, k.place, omega arith)

    go : (j < n + x.2) ⊎ (n + x.2 ≤ j)
        → (n + x.2 ≤ j → j < n + x.2 + live_size xs → Coordinate (n + x.2) xs j) → Coordinate n (x ∷ xs) j
    go (inl k) later =
        let f = here (eqb x.0 x.0) (eq-eqb x.0 x.0 refl) k in
        record { cell = x.0; place = j - n; is = record { is_live = f.0; place = f.1; number = f.2 } }
    go (inr k) later =
        let c = later (omega arith) (omega arith) in
        let apart : x.0 ≢ c.cell = λ e.
        let f : true ≡ false = sym c.is.is_live ∙ ap (λ k. has k (cells xs)) (sym e) ∙ head-absent x.0 (cells xs) r in
        cc in
        let f = there c.cell c.place (eqb x.0 c.cell) (ne_eqb x.0 c.cell apart) c.is in
        record { cell = c.cell; place = c.place; is = record { is_live = f.0; place = f.1; number = f.2 } }

-- and a number is that of one cell's coordinate alone
pub same-cell : (live : List (ℕ × ℕ × ℕ)) (s t p : ℕ) → has s (cells live) ≡ true → has t (cells live) ≡ true
    → p < size_of live t → first_coordinate live s ≤ first_coordinate live t + p
    → first_coordinate live t + p < first_coordinate live s + size_of live s → s ≡ t
same-cell [] s t p hs ht l low high = cc
same-cell (x ∷ xs) s t p hs ht l low high =
    go (eqb x.0 s) (eqb x.0 t) refl refl hs ht l low high (same-cell xs s t p)
  where
    go : (b c : Bool) → eqb x.0 s ≡ b → eqb x.0 t ≡ c → (b || has s (cells xs)) ≡ true
        → (c || has t (cells xs)) ≡ true → p < cond c x.2 (size_of xs t)
        → cond b 0 (x.2 + first_coordinate xs s) ≤ cond c 0 (x.2 + first_coordinate xs t) + p
        → cond c 0 (x.2 + first_coordinate xs t) + p
        < cond b 0 (x.2 + first_coordinate xs s) + cond b x.2 (size_of xs s)
        → (has s (cells xs) ≡ true → has t (cells xs) ≡ true → p < size_of xs t
        → first_coordinate xs s ≤ first_coordinate xs t + p
        → first_coordinate xs t + p < first_coordinate xs s + size_of xs s → s ≡ t)
        → s ≡ t
    go true true e f hs ht l low high later = sym (eqb-true x.0 s e) ∙ eqb-true x.0 t f
    go true false e f hs ht l low high later = absurd (omega arith)
    go false true e f hs ht l low high later = absurd (omega arith)
    go false false e f hs ht l low high later = later hs ht l (omega arith) (omega arith)
