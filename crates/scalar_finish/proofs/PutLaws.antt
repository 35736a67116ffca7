-- The entries of a block put between its coordinates, and those of all blocks.
use Rattle.std.proofs.Common.{◌≡◌, ◌≢◌, ℕ, zero, suc, ◌<◌, ◌≤◌, ◌+◌, ◌-◌, ◌*◌, Bool, true, false, cond, ◌||◌, ◌&&◌, refl, sym}
use Rattle.std.proofs.Common.{ap, ap₂, ◌∙◌, subst, arith, zero-add, add-one, inl, inr, List, [], ◌∷◌, ◌++◌, length, map}
use Rattle.std.proofs.Common.{get_or, take, drop, eqb, All, Option, Some, None, length-drop}
use Rattle.std.specs.Option.{is_some}
use Rattle.std.proofs.lemmas.Bool.{eq-eqb, ne_eqb, eqb-true, cases_eq, cases_Bool, and_parts}
use Rattle.std.proofs.lemmas.List.{map-append, length-map, length-take-le, take_more, take_all}
use Rattle.dense_blocks.specs.Blocks.{matrix_of}
use Rattle.dense_blocks.specs.Matrices.{cut}
use Rattle.dense_blocks.specs.MatrixFacts.{zero_matrix}
use Rattle.dense_blocks.specs.declared.block.Block.{Block}
use Rattle.dense_blocks.proofs.BlockLaws.{block-size}
use Rattle.rising_lists.specs.Rising.{ByCell, IsRising, has, keys, look, entry}
use Rattle.block_complexes.specs.BlockComplexes.{AreBothLive, AreConsecutive, cells, degree_of, size_of, live_size}
use Rattle.block_complexes.proofs.LiveLaws.{cell-at}
use Rattle.block_sparse.specs.StoredBlocks.{StoredBlocks, StoredBlock, StandsAt, block_at, complex_in, flag_of, matrix, matrix_or}
use Rattle.block_sparse.specs.Flags.{HasNoFlags}
use Rattle.block_sparse.specs.Grids.{AreSized, as_block, part, segment, width}
use Rattle.block_sparse.proofs.ScalarBlocks.{not-block_at}
use Rattle.block_sparse.proofs.StoredLaws.{flag-as_block}
use Rattle.scalar_finish.specs.Splits.{unit_cells, coordinate_cells, first_coordinate, entry_at, IsSplit}
use Rattle.scalar_finish.specs.Entries.{units_from, first_coordinates, HavePut}
use Rattle.scalar_finish.proofs.NumberLaws.{numbers_from, numbers-rise, has-number, number-within, first-within}
use Rattle.scalar_finish.proofs.NumberLaws.{IsNumber, numbered, number-live, same-cell}
use Rattle.scalar_finish.proofs.SplitLaws.{zero-entry}

-- ---- units

keys-units : (n m : ℕ) → keys (units_from n m) ≡ numbers_from n m
keys-units n zero = refl
keys-units n (suc m) = ap (λ ks. n ∷ ks) (keys-units (n + 1) m)

pub units-width : (n m : ℕ) → width (units_from n m) ≡ m
units-width n zero = refl
units-width n (suc m) = omega (arith, units-width (n + 1) m)

pub units-rise : (n m : ℕ) → IsRising (keys (units_from n m))
units-rise n m = subst IsRising (sym (keys-units n m)) (numbers-rise n m)

units-append : (n a b : ℕ) → units_from n (a + b) ≡ units_from n a ++ units_from (n + a) b
units-append n zero b =
    let e : 0 + b ≡ b = omega arith in let f : n ≡ n + 0 = omega arith in ap (units_from n) e ∙ ap (λ j. units_from j b) f
units-append n (suc a) b =
    let e : suc a + b ≡ suc (a + b) = omega arith in
    let f : n + 1 + a ≡ n + suc a = omega arith in
    ap (units_from n) e
    ∙ ap (λ us. (n, 1) ∷ us) (units-append (n + 1) a b ∙ ap (λ j. units_from (n + 1) a ++ units_from j b) f)

unit_cells-units : (n k m : ℕ) → map (λ (l : ℕ × ℕ × ℕ). (l.0, l.2)) (unit_cells n k m) ≡ units_from n m
unit_cells-units n k zero = refl
unit_cells-units n k (suc m) = ap (λ us. (n, 1) ∷ us) (unit_cells-units (n + 1) k m)

pub coordinates-units : (n : ℕ) (live : List (ℕ × ℕ × ℕ)) → map (λ (l : ℕ × ℕ × ℕ). (l.0, l.2)) (coordinate_cells n live)
    ≡ units_from n (live_size live)
coordinates-units n [] = refl
coordinates-units n (l ∷ ls) =
    map-append (λ (l : ℕ × ℕ × ℕ). (l.0, l.2)) (unit_cells n l.1 l.2) (coordinate_cells (n + l.2) ls)
    ∙ ap₂ ◌++◌ (unit_cells-units n l.1 l.2) (coordinates-units (n + l.2) ls)
    ∙ sym (units-append n l.2 (live_size ls))

pub length-units_from : (n m : ℕ) → length (units_from n m) ≡ m
length-units_from n zero = refl
length-units_from n (suc m) = ap suc (length-units_from (n + 1) m)

-- some of them
pub units-slice : (n m a b : ℕ) → a + b ≤ m → take b (drop a (units_from n m)) ≡ units_from (n + a) b
units-slice n m zero b l = let e : n ≡ n + 0 = omega arith in first n m b (omega arith) ∙ ap (λ j. units_from j b) e
  where
    first : (n m b : ℕ) → b ≤ m → take b (units_from n m) ≡ units_from n b
    first n zero zero l = refl
    first n zero (suc b) l = absurd (omega arith)
    first n (suc m) zero l = refl
    first n (suc m) (suc b) l = ap (λ us. (n, 1) ∷ us) (first (n + 1) m b (omega arith))
units-slice n zero (suc a) b l = absurd (omega arith)
units-slice n (suc m) (suc a) b l =
    let e : n + 1 + a ≡ n + suc a = omega arith in
    units-slice (n + 1) m a b (omega arith) ∙ ap (λ j. units_from j b) e

-- those of a cell
module _ (live : List (ℕ × ℕ × ℕ)) (s first size : ℕ) (us : List (ℕ × ℕ)) (h : has s (cells live) ≡ true)
    (is_first : first ≡ first_coordinate live s) (is_size : size ≡ size_of live s)
    (all : us ≡ units_from 0 (live_size live)) where
  pub units-within : first + size ≤ length us
  units-within = omega (arith, first-within live s h, ap length all, length-units_from 0 (live_size live))

  pub units-of : take (first + size - first) (drop first us) ≡ units_from (first_coordinate live s) (size_of live s)
  units-of =
      let n : first + size - first ≡ size_of live s = omega arith in
      let within : first + size_of live s ≤ live_size live = omega (arith, first-within live s h) in
      ap₂ (λ m xs. take m (drop first xs)) n all
      ∙ units-slice 0 (live_size live) first (size_of live s) within
      ∙ ap (λ j. units_from j (size_of live s)) (zero-add first ∙ is_first)

-- the number of the first coordinate
look-first : (n : ℕ) (live : List (ℕ × ℕ × ℕ)) (s : ℕ) → has s (cells live) ≡ true
    → look s (cells live) (first_coordinates n live) ≡ Some (n + first_coordinate live s)
look-first n [] s h = cc
look-first n (l ∷ ls) s h = go (eqb l.0 s) h (look-first (n + l.2) ls s)
  where
    go : (b : Bool) → (b || has s (cells ls)) ≡ true
        → (has s (cells ls) ≡ true → look s (cells ls) (first_coordinates (n + l.2) ls)
        ≡ Some (n + l.2 + first_coordinate ls s))
        → cond b (Some n) (look s (cells ls) (first_coordinates (n + l.2) ls))
        ≡ Some (n + cond b 0 (l.2 + first_coordinate ls s))
    go true m later = let e : n ≡ n + 0 = omega arith in ap Some e
    go false m later =
        let e : n + l.2 + first_coordinate ls s ≡ n + (l.2 + first_coordinate ls s) = omega arith in later m ∙ ap Some e

pub entry-first : (live : List (ℕ × ℕ × ℕ)) (s : ℕ) (line : ByCell ℕ)
    → line ≡ record { cells = cells live; values = first_coordinates 0 live } → has s (cells live) ≡ true
    → entry line s ≡ Some (first_coordinate live s)
entry-first live s line e h =
    ap (λ l. entry l s) e ∙ look-first 0 live s h ∙ ap Some (zero-add (first_coordinate live s))

pub length-firsts : (n : ℕ) (live : List (ℕ × ℕ × ℕ)) → length (first_coordinates n live) ≡ length (cells live)
length-firsts n [] = refl
length-firsts n (l ∷ ls) = ap suc (length-firsts (n + l.2) ls)

pub firsts-next : (n : ℕ) (live : List (ℕ × ℕ × ℕ)) (i : ℕ) → i < length live
    → first_coordinates n (take (suc i) live) ≡ first_coordinates n (take i live)
    ++ (n + live_size (take i live)) ∷ []
firsts-next n [] i l = absurd (omega arith)
firsts-next n (x ∷ xs) zero l = let e : n ≡ n + 0 = omega arith in ap (λ j. j ∷ []) e
firsts-next n (x ∷ xs) (suc i) l =
    let e : n + x.2 + live_size (take i xs) ≡ n + (x.2 + live_size (take i xs)) = omega arith in
    ap (λ fs. n ∷ fs) (firsts-next (n + x.2) xs i (omega arith)
    ∙ ap (λ j. first_coordinates (n + x.2) (take i xs) ++ j ∷ []) e)

pub firsts-push : (live : List (ℕ × ℕ × ℕ)) (i count : ℕ) (old new : List ℕ) → i < length live
    → old ≡ first_coordinates 0 (take i live) → count ≡ live_size (take i live) → new ≡ old ++ count ∷ []
    → new ≡ first_coordinates 0 (take (i + 1) live)
firsts-push live i count old new l e at f =
    f ∙ ap₂ (λ fs j. fs ++ j ∷ []) e (at ∙ sym (zero-add (live_size (take i live))))
    ∙ sym (firsts-next 0 live i l)
    ∙ ap (λ n. first_coordinates 0 (take n live)) (sym (add-one i))

-- ---- parts of one entry

take-one : {A : Type 0} (xs : List A) (p : ℕ) (d : A) → p < length xs → take 1 (drop p xs) ≡ get_or xs p d ∷ []
take-one [] p d l = absurd (omega arith)
take-one (x ∷ xs) zero d l = refl
take-one (x ∷ xs) (suc p) d l = take-one xs p d (omega arith)

segment-unit : {A : Type 0} (n m p j : ℕ) (xs : List A) → j ≡ n + p → p < m
    → segment (units_from n m) xs j ≡ take 1 (drop p xs)
segment-unit n zero p j xs e l = absurd (omega arith)
segment-unit n (suc m) zero j xs e l =
    ap (λ b. cond b (take 1 xs) (segment (units_from (n + 1) m) (drop 1 xs) j)) (eq-eqb n j (omega arith))
segment-unit n (suc m) (suc p) j xs e l =
    let apart : n ≢ j = omega arith in
    ap (λ b. cond b (take 1 xs) (segment (units_from (n + 1) m) (drop 1 xs) j)) (ne_eqb n j apart)
    ∙ segment-unit (n + 1) m p j (drop 1 xs) (omega arith) (omega arith)
    ∙ ap (take 1) (one xs p)
  where
    one : {A : Type 0} (xs : List A) (p : ℕ) → drop p (drop 1 xs) ≡ drop (suc p) xs
    one [] zero = refl
    one [] (suc p) = refl
    one (x ∷ xs) p = refl

-- the part from one coordinate to another
part-unit : (a m b n p q : ℕ) (A : List (List ℕ)) → p < m → q < n → q < length A → p < length (get_or A q [])
    → part (units_from a m) (units_from b n) A (a + p) (b + q) ≡ (entry_at A q p ∷ []) ∷ []
part-unit a m b n p q A lp lq inside within =
    ap (map (λ row. segment (units_from a m) row (a + p)))
    (segment-unit b n q (b + q) A refl lq ∙ take-one A q [] inside)
    ∙ ap (λ row. row ∷ [])
    (segment-unit a m p (a + p) (get_or A q []) refl lp ∙ take-one (get_or A q []) p 0 within)

row-length : (m n : ℕ) (xs : List ℕ) (i : ℕ) → length xs ≡ m * n → i < m → length (get_or (cut m n xs) i []) ≡ n
row-length zero n xs i e l = absurd (omega arith)
row-length (suc m) n xs zero e l = length-take-le n xs (omega arith)
row-length (suc m) n xs (suc i) e l = row-length m n (drop n xs) i (omega (arith, length-drop n xs)) (omega arith)

-- ---- what has been put

or_false : (b : Bool) → (b || false) ≡ b
or_false true = refl
or_false false = refl

-- one listed cell more
has-next : (ks : List ℕ) (i c : ℕ) → i < length ks → has c (take (i + 1) ks) ≡ (has c (take i ks) || eqb (get_or ks i 0) c)
has-next ks i c l = ap (has c) (take_more ks i 0 l) ∙ pushed (take i ks) (get_or ks i 0)
  where
    pushed : (xs : List ℕ) (y : ℕ) → has c (xs ++ y ∷ []) ≡ (has c xs || eqb y c)
    pushed [] y = or_false (eqb y c)
    pushed (x ∷ xs) y = go (eqb x c) (pushed xs y)
      where
        go : (b : Bool) → has c (xs ++ y ∷ []) ≡ (has c xs || eqb y c) → (b || has c (xs ++ y ∷ []))
            ≡ ((b || has c xs) || eqb y c)
        go true e = refl
        go false e = e

module _ (v : StoredBlocks) where
  abbrev first : ℕ → ℕ
  first s = first_coordinate v.live s

  abbrev size : ℕ → ℕ
  size s = size_of v.live s

  abbrev units : ℕ → List (ℕ × ℕ)
  units s = units_from (first s) (size s)

  -- a coordinate is among those of its own cell
  listed : (x s p : ℕ) → has x (cells v.live) ≡ true → has s (cells v.live) ≡ true → p < size s
      → has (first s + p) (keys (units x)) ≡ eqb x s
  listed x s p hx hs l = ap (has (first s + p)) (keys-units (first x) (size x)) ∙ elim (cases_eq x s) [
    | inl e ↦ ap (λ c. has (first s + p) (numbers_from (first c) (size c))) e
        ∙ has-number (first s) (size s) (first s + p) (omega arith) (omega arith) ∙ sym (eq-eqb x s e)
    | inr d ↦ elim (cases_Bool (has (first s + p) (numbers_from (first x) (size x)))) [
      | inl h ↦
          let w = number-within (first x) (size x) (first s + p) h in
          absurd (d (same-cell v.live x s p hx hs l w.0 w.1))
      | inr h ↦ h ∙ sym (ne_eqb x s d)
    ]
  ]

  -- a unit of a cell is the number of a coordinate
  unit-number : (x i : ℕ) → has x (cells v.live) ≡ true → has i (keys (units x)) ≡ true → (p : ℕ)
      × IsNumber 0 v.live x p i
  unit-number x i hx h =
      let w = number-within (first x) (size x) i (sym (ap (has i) (keys-units (first x) (size x))) ∙ h) in
      (i - first x, record { is_live = hx; place = omega (arith, w.0, w.1); number = omega (arith, w.0) })

  pub units-degrees : (x y i j : ℕ) → AreConsecutive v.live x y → has i (keys (units x)) ≡ true
      → has j (keys (units y)) ≡ true
      → degree_of (coordinate_cells 0 v.live) j ≡ degree_of (coordinate_cells 0 v.live) i + 1
  units-degrees x y i j c hi hj =
      let a = unit-number x i c.from hi in
      let b = unit-number y j c.to hj in
      numbered (λ l. l.1) 0 v.live y b.0 j b.1 ∙ c.degrees
      ∙ ap (λ d. d + 1) (sym (numbered (λ l. l.1) 0 v.live x a.0 i a.1))

  pub units-sized : (x : ℕ) → has x (cells v.live) ≡ true → AreSized (coordinate_cells 0 v.live) (units x)
  units-sized x hx = all (first x) (size x) (λ p l.
      let a : IsNumber 0 v.live x p (first x + p) = record {
        is_live = hx;
        place = l;
        number = sym (zero-add (first x + p));
      } in (number-live 0 v.live x p (first x + p) a, numbered (λ l. l.2) 0 v.live x p (first x + p) a))
    where
      Fits : ℕ × ℕ → Type 0
      Fits l = (has l.0 (cells (coordinate_cells 0 v.live)) ≡ true)
          × (size_of (coordinate_cells 0 v.live) l.0 ≡ l.1)

      all : (n m : ℕ) → ((p : ℕ) → p < m → Fits (n + p, 1)) → All Fits (units_from n m)
      all n zero h i d l = absurd (omega arith)
      all n (suc m) h zero d l = let e : n + 0 ≡ n = omega arith in subst (λ j. Fits (j, 1)) e (h 0 (omega arith))
      all n (suc m) h (suc i) d l =
          all (n + 1) m (λ p k. let e : n + suc p ≡ n + 1 + p = omega arith in
          subst (λ j. Fits (j, 1)) e (h (suc p) (omega arith))) i d (omega arith)

  -- the entries of a block
  module _ (w m : StoredBlocks) (x y : ℕ) (b : Block) (is : StandsAt v x y b)
      (grid : (i j : ℕ) → block_at m i j ≡ cond (has i (keys (units x)) && has j (keys (units y)))
      (as_block (part (units x) (units y) (matrix_of b) i j)) (block_at w i j)) where
    pub block-put : HavePut v (λ s t. eqb x s && eqb y t) w m
    block-put s t p q l hp hq =
        grid (first s + p) (first t + q)
        ∙ ap (λ b. cond b P (block_at w (first s + p) (first t + q)))
        (ap₂ ◌&&◌ (listed x s p is.fits.between.from l.from hp) (listed y t q is.fits.between.to l.to hq))
        ∙ go (eqb x s && eqb y t) refl
      where
        P : Option StoredBlock
        P = as_block (part (units x) (units y) (matrix_of b) (first s + p) (first t + q))

        rows : length (matrix_of b) ≡ size y
        rows = block-size b ∙ is.fits.rows

        same : x ≡ s → y ≡ t → part (units x) (units y) (matrix_of b) (first s + p) (first t + q)
            ≡ (entry_at (matrix v s t) q p ∷ []) ∷ []
        same e f =
            let hp' : p < size x = subst (λ c. p < size c) (sym e) hp in
            let hq' : q < size y = subst (λ c. q < size c) (sym f) hq in
            let in_rows : q < b.rows = subst (λ k. q < k) (sym is.fits.rows) hq' in
            let row = row-length b.rows b.cols b.entries q b.full in_rows ∙ is.fits.cols in
            ap₂ (λ s t. part (units x) (units y) (matrix_of b) (first s + p) (first t + q)) (sym e) (sym f)
            ∙ part-unit (first x) (size x) (first y) (size y) p q (matrix_of b) hp' hq'
            (subst (λ k. q < k) (sym rows) hq') (subst (λ k. p < k) (sym row) hp')
            ∙ ap (λ A. (entry_at A q p ∷ []) ∷ []) is.is_matrix
            ∙ ap₂ (λ s t. (entry_at (matrix v s t) q p ∷ []) ∷ []) e f

        go : (c : Bool) → (eqb x s && eqb y t) ≡ c → cond c P (block_at w (first s + p) (first t + q))
            ≡ cond c (as_block ((entry_at (matrix v s t) q p ∷ []) ∷ [])) (block_at w (first s + p) (first t + q))
        go true e = let h = and_parts (eqb x s) (eqb y t) e in
            ap as_block (same (eqb-true x s h.0) (eqb-true y t h.1))
        go false e = refl

    pub flags-put : HasNoFlags w → HasNoFlags m
    flags-put none i j = ap flag_of (grid i j) ∙ go (has i (keys (units x)) && has j (keys (units y)))
      where
        go : (c : Bool) → flag_of (cond c (as_block (part (units x) (units y) (matrix_of b) i j)) (block_at w i j))
            ≡ false
        go true = flag-as_block (part (units x) (units y) (matrix_of b) i j)
        go false = none i j

  pub put-same : (P Q : ℕ → ℕ → Bool) (w m : StoredBlocks) → ((s t : ℕ) → AreBothLive v.live s t → P s t ≡ Q s t)
      → HavePut v P w m → HavePut v Q w m
  put-same P Q w m e h s t p q l hp hq =
      h s t p q l hp hq
      ∙ ap (λ b. cond b (as_block ((entry_at (matrix v s t) q p ∷ []) ∷ [])) (block_at w (first s + p) (first t + q)))
      (e s t l)

  put-then : (P Q : ℕ → ℕ → Bool) (u w m : StoredBlocks) → HavePut v P u w → HavePut v Q w m
      → HavePut v (λ s t. Q s t || P s t) u m
  put-then P Q u w m f g s t p q l hp hq = g s t p q l hp hq ∙ go (Q s t)
    where
      E : Option StoredBlock
      E = as_block ((entry_at (matrix v s t) q p ∷ []) ∷ [])

      go : (b : Bool) → cond b E (block_at w (first s + p) (first t + q))
          ≡ cond (b || P s t) E (block_at u (first s + p) (first t + q))
      go true = refl
      go false = f s t p q l hp hq

  -- nothing yet
  pub put-none : (P : ℕ → ℕ → Bool) (w : StoredBlocks) → ((s t : ℕ) → P s t ≡ false) → HavePut v P w w
  put-none P w none s t p q l hp hq =
      sym (ap (λ b. cond b (as_block ((entry_at (matrix v s t) q p ∷ []) ∷ []))
      (block_at w (first s + p) (first t + q))) (none s t))

  -- one cell more
  pub column-next : (x : ℕ) (column : List ℕ) (i : ℕ) (u w m : StoredBlocks) → i < length column
      → HavePut v (λ s t. eqb x s && has t (take i column)) u w
      → HavePut v (λ s t. eqb x s && eqb (get_or column i 0) t) w m
      → HavePut v (λ s t. eqb x s && has t (take (i + 1) column)) u m
  column-next x column i u w m l f g =
      put-same (λ s t. (eqb x s && eqb (get_or column i 0) t) || (eqb x s && has t (take i column)))
      (λ s t. eqb x s && has t (take (i + 1) column)) u m
      (λ s t b. both (eqb x s) (eqb (get_or column i 0) t) (has t (take i column)) (has t (take (i + 1) column))
      (has-next column i t l))
      (put-then (λ s t. eqb x s && has t (take i column)) (λ s t. eqb x s && eqb (get_or column i 0) t) u w m f g)
    where
      both : (a b c d : Bool) → d ≡ (c || b) → ((a && b) || (a && c)) ≡ (a && d)
      both true true true d e = sym e
      both true true false d e = sym e
      both true false true d e = sym e
      both true false false d e = sym e
      both false b c d e = refl

  pub columns-next : (i : ℕ) (u w m : StoredBlocks) → i < length v.live
      → HavePut v (λ s t. has s (take i (cells v.live)) && is_some (block_at v s t)) u w
      → HavePut v (λ s t. eqb (get_or v.live i (0, 0, 0)).0 s && is_some (block_at v s t)) w m
      → HavePut v (λ s t. has s (take (i + 1) (cells v.live)) && is_some (block_at v s t)) u m
  columns-next i u w m l f g =
      let x : ℕ = (get_or v.live i (0, 0, 0)).0 in
      let inside : i < length (cells v.live) = omega (arith, length-map v.live (λ (l : ℕ × ℕ × ℕ). l.0)) in
      put-same (λ s t. (eqb x s && is_some (block_at v s t))
      || (has s (take i (cells v.live)) && is_some (block_at v s t)))
      (λ s t. has s (take (i + 1) (cells v.live)) && is_some (block_at v s t)) u m
      (λ s t b. either (eqb x s) (has s (take i (cells v.live))) (has s (take (i + 1) (cells v.live)))
      (is_some (block_at v s t))
      (has-next (cells v.live) i s inside
      ∙ ap (λ c. has s (take i (cells v.live)) || eqb c s) (cell-at v.live i l)))
      (put-then (λ s t. has s (take i (cells v.live)) && is_some (block_at v s t))
      (λ s t. eqb x s && is_some (block_at v s t)) u w m f g)
    where
      either : (a b d c : Bool) → d ≡ (b || a) → ((a && c) || (b && c)) ≡ (d && c)
      either a b d c e = go a b c ∙ ap (λ d. d && c) (sym e)
        where
          go : (a b c : Bool) → ((a && c) || (b && c)) ≡ ((b || a) && c)
          go true true true = refl
          go true true false = refl
          go true false c = or_false c
          go false true c = refl
          go false false c = refl

  -- all cells
  pub column-all : (x : ℕ) (column : List ℕ) (i : ℕ) (u w : StoredBlocks)
      → ((t : ℕ) → has t column ≡ is_some (block_at v x t)) → length column ≤ i
      → HavePut v (λ s t. eqb x s && has t (take i column)) u w
      → HavePut v (λ s t. eqb x s && is_some (block_at v s t)) u w
  column-all x column i u w are end h =
      put-same (λ s t. eqb x s && has t (take i column)) (λ s t. eqb x s && is_some (block_at v s t)) u w
      (λ s t b. ap (λ ks. eqb x s && has t ks) (take_all i column end) ∙ at s t (eqb x s) refl) h
    where
      at : (s t : ℕ) (b : Bool) → eqb x s ≡ b → (b && has t column) ≡ (b && is_some (block_at v s t))
      at s t true e = are t ∙ ap (λ c. is_some (block_at v c t)) (eqb-true x s e)
      at s t false e = refl

  pub columns-all : (i : ℕ) (u w : StoredBlocks) → length v.live ≤ i
      → HavePut v (λ s t. has s (take i (cells v.live)) && is_some (block_at v s t)) u w
      → HavePut v (λ s t. is_some (block_at v s t)) u w
  columns-all i u w end h =
      let within : length (cells v.live) ≤ i = omega (arith, length-map v.live (λ (l : ℕ × ℕ × ℕ). l.0)) in
      put-same (λ s t. has s (take i (cells v.live)) && is_some (block_at v s t)) (λ s t. is_some (block_at v s t)) u w
      (λ s t b. ap (λ ks. has s ks && is_some (block_at v s t)) (take_all i (cells v.live) within)
      ∙ ap (λ c. c && is_some (block_at v s t)) b.from) h

  -- ---- all of them

  pub put-split : (u w : StoredBlocks) → w.live ≡ coordinate_cells 0 v.live → ((i j : ℕ) → block_at u i j ≡ None)
      → HavePut v (λ s t. is_some (block_at v s t)) u w → IsSplit (complex_in v) (complex_in w)
  put-split u w live none h = record {
    live = live;
    matrices = λ s t p q l hp hq.
        let i : ℕ = first s + p in
        let j : ℕ = first t + q in
        let one : (c p : ℕ) → has c (cells v.live) ≡ true → p < size c → size_of w.live (first c + p) ≡ 1 =
        λ c p hc k. ap (λ ls. size_of ls (first c + p)) live ∙ numbered (λ l. l.2) 0 v.live c p (first c + p)
        (record { is_live = hc; place = k; number = sym (zero-add (first c + p)) }) in
        ap (matrix_or (block_at w i j)) (ap₂ zero_matrix (one t q l.to hq) (one s p l.from hp))
        ∙ ap (λ o. matrix_or o (zero_matrix 1 1)) (h s t p q l hp hq)
        ∙ go s t p q (is_some (block_at v s t)) refl i j;
  }
    where
      put-one : (e : ℕ) → matrix_or (as_block ((e ∷ []) ∷ [])) (zero_matrix 1 1) ≡ (e ∷ []) ∷ []
      put-one zero = refl
      put-one (suc e) =
          let apart : suc e ≢ 0 = omega arith in
          let block : StoredBlock = record { matrix = (suc e ∷ []) ∷ []; flagged = false } in
          ap (λ b. matrix_or (cond ((b && true) && true) None (Some block)) (zero_matrix 1 1)) (ne_eqb (suc e) 0 apart)

      go : (s t p q : ℕ) (b : Bool) → is_some (block_at v s t) ≡ b → (i j : ℕ)
          → matrix_or (cond b (as_block ((entry_at (matrix v s t) q p ∷ []) ∷ [])) (block_at u i j)) (zero_matrix 1 1)
          ≡ (entry_at (matrix v s t) q p ∷ []) ∷ []
      go s t p q true e i j = put-one (entry_at (matrix v s t) q p)
      go s t p q false e i j =
          ap (λ o. matrix_or o (zero_matrix 1 1)) (none i j)
          ∙ sym (ap (λ A. (entry_at A q p ∷ []) ∷ [])
          (ap (λ o. matrix_or o (zero_matrix (size t) (size s))) (not-block_at (block_at v s t) e))
          ∙ ap (λ e. (e ∷ []) ∷ []) (zero-entry (size t) (size s) q p))
