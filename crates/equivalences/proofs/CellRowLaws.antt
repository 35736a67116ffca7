-- Rows by cell: one of them replaced, rows added at listed cells one by one, and rows gathered in one block.
use Rattle.std.specs.List.{flat_map}
use Rattle.std.specs.Option.{unwrap_or}
use Rattle.std.proofs.Common.{◌≡◌, ◌≢◌, ℕ, zero, suc, ◌+◌, ◌*◌, ◌<◌, ◌≤◌, Bool, true, false, cond, eqb, List, [], ◌∷◌, ◌++◌}
use Rattle.std.proofs.Common.{length, take, drop, get_or, set, All, refl, sym, ap, ap₂, ◌∙◌, subst, arith, Some}
use Rattle.std.proofs.Common.{suc-add, zero-add, inl, inr, length-drop}
use Rattle.std.proofs.lemmas.Bool.{ne_eqb, eq-eqb, cases_eq}
use Rattle.std.proofs.lemmas.List.{append-nil, drop_more, drop-drop, drop_all, length-take-le}
use Rattle.std.proofs.lemmas.List.Elements.{All-tail, All-head, All-take, All-drop}
use Rattle.dense_blocks.specs.Field.{Ops}
use Rattle.dense_blocks.specs.Blocks.{matrix_of}
use Rattle.dense_blocks.specs.declared.block.Block.{Block}
use Rattle.dense_blocks.specs.FieldLaws.{IsField}
use Rattle.dense_blocks.specs.Vectors.{AllScalars}
use Rattle.dense_blocks.specs.MatrixFacts.{IsMatrix}
use Rattle.dense_blocks.specs.Matrices.{cut}
use Rattle.dense_blocks.proofs.Shapes.{Matrix, to_matrix, from_matrix}
use Rattle.dense_blocks.proofs.Cutting.{flat, Sized, flat-cut, cut-flat, flat-size, flat-append, cut-matrix}
use Rattle.rising_lists.specs.Rising.{ByCell, IsLine, has, look}
use Rattle.rising_lists.proofs.Keyed.{look-set, look-found}
use Rattle.cochain_vec.specs.declared.cell.Cell.{Cell}
use Rattle.cochain_vec.specs.Complexes.{total_size}
use Rattle.block_sparse.specs.Grids.{width}
use Rattle.equivalences.proofs.RowLaws.{with_product-matrix}
use Rattle.equivalences.specs.Rows.{HasShape, cell_rows_of, entries_of, with_product, with_products}

-- the rows at the place of a cell
pub rows-found : (ks : List ℕ) (vs : List (List (List ℕ))) (c i : ℕ) (v : List (List ℕ))
    → IsLine {A = List (List ℕ)} (record { cells = ks; values = vs }) → i < length ks → get_or ks i 0 ≡ c
    → v ≡ get_or vs i v → cell_rows_of (record { cells = ks; values = vs }) c ≡ v
rows-found ks vs c i v line l e w = ap (λ x. unwrap_or x []) (look-found ks vs c i v line.full line.rising l e w)

-- other rows at the place of a cell
pub rows-set : (ks : List ℕ) (vs : List (List (List ℕ))) (c i : ℕ) (v : List (List ℕ))
    → IsLine {A = List (List ℕ)} (record { cells = ks; values = vs }) → i < length ks → get_or ks i 0 ≡ c
    → (q : ℕ) → cell_rows_of (record { cells = ks; values = set vs i v }) q
    ≡ cond (eqb q c) v (cell_rows_of (record { cells = ks; values = vs }) q)
rows-set ks vs c i v line l e q =
    ap (λ x. unwrap_or x []) (look-set ks vs line.full line.rising i v l q
    ∙ ap (λ x. cond (eqb q x) (Some v) (look q ks vs)) e)
    ∙ spread (eqb q c)
  where
    spread : (b : Bool) → unwrap_or (cond b (Some v) (look q ks vs)) []
        ≡ cond b v (unwrap_or (look q ks vs) [])
    spread true = refl
    spread false = refl

pub rows-set-other : (ks : List ℕ) (vs : List (List (List ℕ))) (c i : ℕ) (v : List (List ℕ))
    → IsLine {A = List (List ℕ)} (record { cells = ks; values = vs }) → i < length ks → get_or ks i 0 ≡ c
    → (q : ℕ) → q ≢ c → cell_rows_of (record { cells = ks; values = set vs i v }) q
    ≡ cell_rows_of (record { cells = ks; values = vs }) q
rows-set-other ks vs c i v line l e q n =
    rows-set ks vs c i v line l e q
    ∙ ap (λ b. cond b v (cell_rows_of (record { cells = ks; values = vs }) q)) (ne_eqb q c n)

-- the rows at each listed cell are those that the calls ask for
abbrev pub AreListedRows : Ops → ℕ → List (ℕ × ℕ) → ByCell (List (List ℕ)) → Type 0
AreListedRows K n ls rows = All (λ (l : ℕ × ℕ). (has l.0 rows.cells ≡ true) × (1 ≤ l.1)
    × IsMatrix K l.1 n (cell_rows_of rows l.0)) ls

-- the listed cells from i on, with their part of the coefficients, still to be added
pub record AreProductsLeft (K : Ops) (n k : ℕ) (ls : List (ℕ × ℕ)) (J R : List (List ℕ)) (old : ByCell (List (List ℕ)))
    (i : ℕ) (rest : List ℕ) (now : ByCell (List (List ℕ))) : Type 0 where
  pub cells_are : now.cells ≡ old.cells
  pub rest_size : length rest ≡ width (drop i ls) * k
  pub rest_scalars : AllScalars K rest
  pub shapes : AreListedRows K n ls now
  pub whole : (q : ℕ) → with_products K n (drop i ls) (cut (width (drop i ls)) k rest) R q (cell_rows_of now q)
      ≡ with_products K n ls J R q (cell_rows_of old q)

pub products_left-start : (K : Ops) (n k rows : ℕ) (ls : List (ℕ × ℕ)) (R : List (List ℕ))
    (old : ByCell (List (List ℕ))) (entries : List ℕ) → rows ≡ width ls → length entries ≡ rows * k
    → AllScalars K entries → AreListedRows K n ls old
    → AreProductsLeft K n k ls (cut rows k entries) R old 0 entries old
products_left-start K n k rows ls R old entries e full scalars shapes = record {
  cells_are = refl;
  rest_size = full ∙ ap (λ m. m * k) e;
  rest_scalars = scalars;
  shapes = shapes;
  whole = λ q. ap (λ m. with_products K n ls (cut m k entries) R q (cell_rows_of old q)) (sym e);
}

cut-first : (m w k : ℕ) (xs : List ℕ) → take m (cut (m + w) k xs) ≡ cut m k xs
cut-first zero w k xs = refl
cut-first (suc m) w k xs =
    ap (λ j. take (suc m) (cut j k xs)) (suc-add m w) ∙ ap (λ A. take k xs ∷ A) (cut-first m w k (drop k xs))

cut-later : (m w k : ℕ) (xs : List ℕ) → drop m (cut (m + w) k xs) ≡ cut w k (drop (m * k) xs)
cut-later zero w k xs =
    let none : 0 * k ≡ 0 = omega arith in
    ap (λ j. cut j k xs) (zero-add w) ∙ ap (λ j. cut w k (drop j xs)) (sym none)
cut-later (suc m) w k xs =
    let size : m * k + k ≡ suc m * k = omega arith in
    ap (λ j. drop (suc m) (cut j k xs)) (suc-add m w) ∙ cut-later m w k (drop k xs)
    ∙ ap (cut w k) (drop-drop (m * k) k xs ∙ ap (λ j. drop j xs) (more m k))
  where
    more : (m k : ℕ) → k + m * k ≡ suc m * k
    more m k = omega arith

-- the first m rows are cut from the first entries
cut-of_take : (m k : ℕ) (xs : List ℕ) → cut m k (take (m * k) xs) ≡ cut m k xs
cut-of_take zero k xs = refl
cut-of_take (suc m) k xs =
    ap (λ j. cut (suc m) k (take j xs)) (sym (more m k))
    ∙ ap₂ ◌∷◌ (take-take k (m * k) xs)
    (ap (cut m k) (drop-take k (m * k) xs) ∙ cut-of_take m k (drop k xs))
  where
    more : (m k : ℕ) → k + m * k ≡ suc m * k
    more m k = omega arith

    take-take : (k j : ℕ) (xs : List ℕ) → take k (take (k + j) xs) ≡ take k xs
    take-take zero j xs = refl
    take-take (suc k) j [] = ap (λ n. take (suc k) (take n [])) (suc-add k j)
    take-take (suc k) j (x ∷ xs) =
        ap (λ n. take (suc k) (take n (x ∷ xs))) (suc-add k j) ∙ ap (λ ys. x ∷ ys) (take-take k j xs)

    drop-take : (k j : ℕ) (xs : List ℕ) → drop k (take (k + j) xs) ≡ take j (drop k xs)
    drop-take zero j xs = ap (λ n. take n xs) (zero-add j)
    drop-take (suc k) j [] = ap (λ n. drop (suc k) (take n [])) (suc-add k j) ∙ sym (take-nil j)
      where
        take-nil : (j : ℕ) → ◌≡◌ {A = List ℕ} (take j []) []
        take-nil zero = refl
        take-nil (suc j) = refl
    drop-take (suc k) j (x ∷ xs) = ap (λ n. drop (suc k) (take n (x ∷ xs))) (suc-add k j) ∙ drop-take k j xs

module _ (K : Ops) (F : IsField K) (n k : ℕ) (ls : List (ℕ × ℕ)) (J R : List (List ℕ)) (hR : Matrix K k n R)
    (old : ByCell (List (List ℕ))) (i : ℕ) (l : ℕ × ℕ) (inside : i < length ls) (is : l ≡ get_or ls i l)
    (rest : List ℕ) (now : ByCell (List (List ℕ))) (left : AreProductsLeft K n k ls J R old i rest now) where
  here : (has l.0 now.cells ≡ true) × (1 ≤ l.1) × IsMatrix K l.1 n (cell_rows_of now l.0)
  here = subst (λ (l : ℕ × ℕ). (has l.0 now.cells ≡ true) × (1 ≤ l.1) × IsMatrix K l.1 n (cell_rows_of now l.0))
      (sym is) (left.shapes i l inside)

  later-is : drop i ls ≡ l ∷ drop (i + 1) ls
  later-is = drop_more ls i l inside ∙ ap (λ m. m ∷ drop (i + 1) ls) (sym is)

  size-is : width (drop i ls) ≡ l.1 + width (drop (i + 1) ls)
  size-is = ap width later-is

  pub next-size : length (cell_rows_of now l.0) ≡ l.1
  next-size = here.2.size

  pub next-rows : IsMatrix K (length (cell_rows_of now l.0)) n (cell_rows_of now l.0)
  next-rows = subst (λ m. IsMatrix K m n (cell_rows_of now l.0)) (sym next-size) here.2

  pub next-within : l.1 * k ≤ length rest
  next-within =
      let e : (l.1 + width (drop (i + 1) ls)) * k ≡ l.1 * k + width (drop (i + 1) ls) * k = omega arith in
      let size : length rest ≡ (l.1 + width (drop (i + 1) ls)) * k = left.rest_size ∙ ap (λ m. m * k) size-is in
      omega (arith, e, size)

  module _ (own later : List ℕ) (own_is : own ≡ take (l.1 * k) rest) (later_is : later ≡ drop (l.1 * k) rest) where
    pub next-full : length own ≡ length (cell_rows_of now l.0) * k
    next-full = ap length own_is ∙ length-take-le (l.1 * k) rest next-within ∙ ap (λ m. m * k) (sym next-size)

    pub next-scalars : AllScalars K own
    next-scalars = subst (AllScalars K) (sym own_is) (All-take (λ a. a < K.order) (l.1 * k) rest left.rest_scalars)

    added : List (List ℕ)
    added = with_product K n (cell_rows_of now l.0) (cut (length (cell_rows_of now l.0)) k own) R

    added-matrix : IsMatrix K (length (cell_rows_of now l.0)) n added
    unfolding added
    added-matrix =
        let m = length (cell_rows_of now l.0) in
        from_matrix K m n added
        (with_product-matrix K F m k n (cell_rows_of now l.0) (cut m k own) R
        (to_matrix K m n (cell_rows_of now l.0) next-rows) (cut-matrix K m k own next-full next-scalars) hR)

    own-part : take l.1 (cut (l.1 + width (drop (i + 1) ls)) k rest) ≡ cut (length (cell_rows_of now l.0)) k own
    own-part =
        cut-first l.1 (width (drop (i + 1) ls)) k rest ∙ sym (cut-of_take l.1 k rest)
        ∙ ap₂ (λ m xs. cut m k xs) (sym next-size) (sym own_is)

    later-part : drop l.1 (cut (l.1 + width (drop (i + 1) ls)) k rest) ≡ cut (width (drop (i + 1) ls)) k later
    later-part = cut-later l.1 (width (drop (i + 1) ls)) k rest ∙ ap (cut (width (drop (i + 1) ls)) k) (sym later_is)

    module _ (new : ByCell (List (List ℕ))) (cells_are : new.cells ≡ now.cells)
        (rows : (q : ℕ) → cell_rows_of new q ≡ cond (eqb q l.0)
        (with_product K n (cell_rows_of now l.0) (cut (length (cell_rows_of now l.0)) k own) R) (cell_rows_of now q))
      where
        shape-next : (m c : ℕ) → IsMatrix K m n (cell_rows_of now c) → IsMatrix K m n (cell_rows_of new c)
        unfolding added
        shape-next m c h = elim (cases_eq c l.0) [
          | inl e ↦
              let same : m ≡ length (cell_rows_of now l.0) = sym h.size ∙ ap (λ c. length (cell_rows_of now c)) e in
              subst (λ A. IsMatrix K m n A)
              (sym (rows c ∙ ap (λ b. cond b added (cell_rows_of now c)) (eq-eqb c l.0 e)))
              (subst (λ m. IsMatrix K m n added) (sym same) added-matrix)
          | inr d ↦
              subst (λ A. IsMatrix K m n A)
              (sym (rows c ∙ ap (λ b. cond b added (cell_rows_of now c)) (ne_eqb c l.0 d))) h
        ]

        at-cell : (q : ℕ) → cond (eqb l.0 q) (with_product K n (cell_rows_of now q)
            (take l.1 (cut (l.1 + width (drop (i + 1) ls)) k rest)) R) (cell_rows_of now q) ≡ cell_rows_of new q
        unfolding added
        at-cell q = elim (cases_eq q l.0) [
          | inl e ↦
              ap (λ b. cond b (with_product K n (cell_rows_of now q)
              (take l.1 (cut (l.1 + width (drop (i + 1) ls)) k rest)) R) (cell_rows_of now q)) (eq-eqb l.0 q (sym e))
              ∙ ap₂ (λ c P. with_product K n (cell_rows_of now c) P R) e own-part
              ∙ sym (rows q ∙ ap (λ b. cond b added (cell_rows_of now q)) (eq-eqb q l.0 e))
          | inr d ↦
              ap (λ b. cond b (with_product K n (cell_rows_of now q)
              (take l.1 (cut (l.1 + width (drop (i + 1) ls)) k rest)) R) (cell_rows_of now q))
              (ne_eqb l.0 q (λ e. d (sym e)))
              ∙ sym (rows q ∙ ap (λ b. cond b added (cell_rows_of now q)) (ne_eqb q l.0 d))
        ]

        pub products_left-next : AreProductsLeft K n k ls J R old (i + 1) later new
        products_left-next = record {
          cells_are = cells_are ∙ left.cells_are;
          rest_size =
              let w = width (drop (i + 1) ls) in
              let e : (l.1 + w) * k ≡ l.1 * k + w * k = omega arith in
              let size : length rest ≡ (l.1 + w) * k = left.rest_size ∙ ap (λ m. m * k) size-is in
              omega (arith, e, size, ap length later_is, length-drop (l.1 * k) rest);
          rest_scalars = subst (AllScalars K) (sym later_is)
              (All-drop (λ a. a < K.order) (l.1 * k) rest left.rest_scalars);
          shapes = λ j d b. let s = left.shapes j d b in (
            subst (λ cs. has (get_or ls j d).0 cs ≡ true) (sym cells_are) s.0,
            s.1,
            shape-next (get_or ls j d).1 (get_or ls j d).0 s.2,
          );
          whole = λ q.
              sym (ap₂ (λ A P. with_products K n (drop (i + 1) ls) P R q A) (at-cell q) later-part)
              ∙ sym (ap (λ ms. with_products K n ms (cut (width ms) k rest) R q (cell_rows_of now q)) later-is)
              ∙ left.whole q;
        }

-- nothing is left at the end
pub products_left-end : (K : Ops) (n k : ℕ) (ls : List (ℕ × ℕ)) (J R : List (List ℕ)) (old : ByCell (List (List ℕ)))
    (i : ℕ) (rest : List ℕ) (now : ByCell (List (List ℕ))) → AreProductsLeft K n k ls J R old i rest now
    → length ls ≤ i → (q : ℕ) → cell_rows_of now q ≡ with_products K n ls J R q (cell_rows_of old q)
products_left-end K n k ls J R old i rest now left l q =
    sym (ap (λ ms. with_products K n ms (cut (width ms) k rest) R q (cell_rows_of now q)) (drop_all i ls l))
    ∙ left.whole q

-- the entries of joined rows
entries-flat : (A : List (List ℕ)) → entries_of A ≡ flat A
entries-flat [] = refl
entries-flat (r ∷ A) = ap (λ t. r ++ t) (entries-flat A)

joined-entries : (f : Cell → List (List ℕ)) (ts : List Cell)
    → flat_map (λ (t : Cell). entries_of (f t)) ts ≡ flat (flat_map f ts)
joined-entries f [] = refl
joined-entries f (t ∷ ts) = ap₂ ◌++◌ (entries-flat (f t)) (joined-entries f ts) ∙ sym (flat-append (f t) (flat_map f ts))

shape-sized : (m n : ℕ) (A : List (List ℕ)) → HasShape m n A → Sized m n A
shape-sized zero n [] h = tt
shape-sized zero n (r ∷ A) h = let bad : length (r ∷ A) ≡ 0 = h.count in absurd (omega arith)
shape-sized (suc m) n [] h = let bad : ◌≡◌ {A = ℕ} 0 (suc m) = h.count in absurd (omega arith)
shape-sized (suc m) n (r ∷ A) h = (
  All-head (λ row. length row ≡ n) r A h.widths,
  shape-sized m n A (record {
    count = let e : suc (length A) ≡ suc m = h.count in omega arith;
    widths = All-tail (λ row. length row ≡ n) r A h.widths;
  }),
)

joined-sized : (n : ℕ) (f : Cell → List (List ℕ)) (ts : List Cell) → All (λ (t : Cell). HasShape t.size n (f t)) ts
    → Sized (total_size ts) n (flat_map f ts)
joined-sized n f [] h = tt
joined-sized n f (t ∷ ts) h =
    sized-append t.size (total_size ts) n (f t) (flat_map f ts)
    (shape-sized t.size n (f t) (All-head (λ (t : Cell). HasShape t.size n (f t)) t ts h))
    (joined-sized n f ts (All-tail (λ (t : Cell). HasShape t.size n (f t)) t ts h))
  where
    sized-append : (k m n : ℕ) (A B : List (List ℕ)) → Sized k n A → Sized m n B → Sized (k + m) n (A ++ B)
    sized-append zero m n [] B ha hb = subst (λ l. Sized l n B) (zero-add' m) hb
      where
        zero-add' : (m : ℕ) → m ≡ 0 + m
        zero-add' m = omega arith
    sized-append zero m n (r ∷ A) B ha hb = absurd ha
    sized-append (suc k) m n [] B ha hb = absurd ha
    sized-append (suc k) m n (r ∷ A) B ha hb =
        subst (λ l. Sized l n (r ∷ (A ++ B))) (more k m) (ha.0, sized-append k m n A B ha.1 hb)
      where
        more : (k m : ℕ) → suc (k + m) ≡ suc k + m
        more k m = omega arith

-- joined rows in one list of entries
pub gathered-size : (n : ℕ) (f : Cell → List (List ℕ)) (ts : List Cell) (entries : List ℕ)
    → All (λ (t : Cell). HasShape t.size n (f t)) ts → entries ≡ flat_map (λ (t : Cell). entries_of (f t)) ts
    → length entries ≡ total_size ts * n
gathered-size n f ts entries h e =
    ap length (e ∙ joined-entries f ts) ∙ flat-size (total_size ts) n (flat_map f ts) (joined-sized n f ts h)

pub gathered-matrix : (n : ℕ) (f : Cell → List (List ℕ)) (ts : List Cell) (entries : List ℕ)
    → All (λ (t : Cell). HasShape t.size n (f t)) ts → entries ≡ flat_map (λ (t : Cell). entries_of (f t)) ts
    → cut (total_size ts) n entries ≡ flat_map f ts
gathered-matrix n f ts entries h e =
    ap (cut (total_size ts) n) (e ∙ joined-entries f ts)
    ∙ cut-flat (total_size ts) n (flat_map f ts) (joined-sized n f ts h)

-- the entries of a block
pub block-entries : (b : Block) → b.entries ≡ entries_of (matrix_of b)
block-entries b = sym (entries-flat (matrix_of b) ∙ flat-cut b.rows b.cols b.entries b.full)

-- a member is the same whatever stands for none
pub get_or-same : {A : Type 0} (xs : List A) (i : ℕ) (d e : A) → i < length xs → get_or xs i d ≡ get_or xs i e
get_or-same [] i d e l = absurd (omega arith)
get_or-same (x ∷ xs) zero d e l = refl
get_or-same (x ∷ xs) (suc i) d e l = get_or-same xs i d e (omega arith)
