-- Joined matrices, row by row.
use Rattle.std.proofs.Common.{◌≡◌, ◌≢◌, ℕ, zero, suc, ◌+◌, ◌*◌, ◌<◌, ◌≤◌, Bool, true, false, cond, ◌||◌, ◌&&◌, IsTrue}
use Rattle.std.proofs.Common.{List, [], ◌∷◌, ◌++◌, length, map, take, drop, get_or, Option, Some, None, All, eqb, refl}
use Rattle.std.proofs.Common.{sym, ap, ap₂, ◌∙◌, subst, arith, ◌⊎◌, inl, inr, add-one, length-append}
use Rattle.std.specs.List.{flat_map, list_all}
use Rattle.std.proofs.lemmas.Bool.{cases_eq, eq-eqb, ne_eqb}
use Rattle.std.proofs.lemmas.List.{append-nil, take_at, drop_at, take_all, take_more, map-append, get_or-map}
use Rattle.std.proofs.lemmas.List.{length-map}
use Rattle.std.proofs.lemmas.List.Elements.{All-head, All-tail}
use Rattle.dense_blocks.specs.Vectors.{zeros}
use Rattle.dense_blocks.specs.Matrices.{cut}
use Rattle.dense_blocks.specs.MatrixFacts.{zero_matrix}
use Rattle.dense_blocks.specs.Blocks.{matrix_of}
use Rattle.dense_blocks.specs.declared.block.Block.{Block}
use Rattle.dense_blocks.proofs.Cutting.{Sized, sized-size, flat, flat-append, flat-size, cut-flat}
use Rattle.dense_blocks.proofs.VectorLaws.{zeros-size}
use Rattle.rising_lists.specs.Rising.{ByCell, IsRising, has, keys, entry, entry_of, line_of}
use Rattle.rising_lists.proofs.Keyed.{rising_head, rising_tail, place_of}
use Rattle.open_columns.specs.declared.mark.Mark.{Mark}
use Rattle.block_complexes.specs.BlockComplexes.{cells, size_of, live_size}
use Rattle.block_sparse.specs.StoredBlocks.{StoredBlocks, is_zero, matrix, matrix_or, stored_block}
use Rattle.block_sparse.specs.Grids.{width, segment, part, window, IsJoined, AreSized}
use Rattle.block_grids.specs.Joined.{grid_block, corner_row, joined_row, joined_rows, joined_entries, AreShaped}
use Rattle.block_grids.specs.Joined.{HaveRow, scalar_row, entry_row, AreScalars, IsSameScalar, IsSamePart}
use Rattle.block_rows.specs.BlockRows.{scalar_block}
use Rattle.std.specs.Option.{option_map}
use Rattle.block_sparse.specs.Invariants.{IsSound}
use Rattle.block_sparse.proofs.Windows.{sized-cut, sized-window}

-- the matrix from s to t, of h rows and w columns
pub corner-matrix : (v : StoredBlocks) (s t h w : ℕ) → size_of v.live t ≡ h → size_of v.live s ≡ w
    → matrix v s t ≡ grid_block (entry_of v.rows t s) h w
corner-matrix v s t h w eh ew = go (entry_of v.rows t s) (entry_of v.columns s t)
  where
    go : (o : Option Block) (m : Option Mark)
        → matrix_or (stored_block o m) (zero_matrix (size_of v.live t) (size_of v.live s)) ≡ grid_block o h w
    go None m = ap₂ zero_matrix eh ew
    go (Some b) m = refl

sized-zeros : (h w : ℕ) → Sized h w (zero_matrix h w)
sized-zeros zero w = tt
sized-zeros (suc h) w = (zeros-size w, sized-zeros h w)

zeros-row : (h w k : ℕ) → k < h → zeros w ≡ get_or (zero_matrix h w) k []
zeros-row zero w k l = absurd (omega arith)
zeros-row (suc h) w zero l = refl
zeros-row (suc h) w (suc k) l = zeros-row h w k (omega arith)

sized-row : (m n : ℕ) (A : List (List ℕ)) (i : ℕ) → Sized m n A → i < m → length (get_or A i []) ≡ n
sized-row zero n A i s l = absurd (omega arith)
sized-row (suc m) n [] i s l = absurd s
sized-row (suc m) n (r ∷ A) zero s l = s.0
sized-row (suc m) n (r ∷ A) (suc i) s l = sized-row m n A i s.1 (omega arith)

sized-append : (m k n : ℕ) (A B : List (List ℕ)) → Sized m n A → Sized k n B → Sized (m + k) n (A ++ B)
sized-append zero k n [] B s t = let e : k ≡ zero + k = omega arith in subst (λ j. Sized j n B) e t
sized-append zero k n (r ∷ A) B s t = absurd s
sized-append (suc m) k n [] B s t = absurd s
sized-append (suc m) k n (r ∷ A) B s t =
    let e : suc (m + k) ≡ suc m + k = omega arith in
    subst (λ j. Sized j n (r ∷ (A ++ B))) e (s.0, sized-append m k n A B s.1 t)

-- a matrix of no other entries than 0
zeros-only : (w : ℕ) → list_all (λ a. eqb a 0) (zeros w) ≡ true
zeros-only zero = refl
zeros-only (suc w) = zeros-only w

zeros-zero : (h w : ℕ) → is_zero (zero_matrix h w) ≡ true
zeros-zero zero w = refl
zeros-zero (suc h) w = ap₂ (λ a b. a && b) (zeros-only w) (zeros-zero h w)

both : (a b : Bool) → (a && b) ≡ true → (a ≡ true) × (b ≡ true)
both true b e = (refl, e)
both false b e = absurd (let f : false ≡ true = e in cc)

only-zeros : (w : ℕ) (r : List ℕ) → length r ≡ w → list_all (λ a. eqb a 0) r ≡ true → r ≡ zeros w
only-zeros zero [] n h = refl
only-zeros zero (a ∷ r) n h = absurd (omega arith)
only-zeros (suc w) [] n h = absurd (omega arith)
only-zeros (suc w) (a ∷ r) n h =
    let s = both (eqb a 0) (list_all (λ a. eqb a 0) r) h in
    ap₂ ◌∷◌ (elim (cases_eq a 0) [ inl e ↦ e | inr m ↦ absurd (let f : false ≡ true = sym (ne_eqb a 0 m) ∙ s.0 in cc) ])
    (only-zeros w r (omega arith) s.1)

zero-zeros : (h w : ℕ) (A : List (List ℕ)) → Sized h w A → is_zero A ≡ true → A ≡ zero_matrix h w
zero-zeros zero w [] s h = refl
zero-zeros zero w (r ∷ A) s h = absurd s
zero-zeros (suc n) w [] s h = absurd s
zero-zeros (suc n) w (r ∷ A) s h =
    let z = both (list_all (λ a. eqb a 0) r) (is_zero A) h in
    ap₂ ◌∷◌ (only-zeros w r s.0 z.0) (zero-zeros n w A s.1 z.1)

-- a part that is zero is where there is no block
pub zero-part : (o : Option Block) (b : Block) (row h col w : ℕ) (r : Bool) → o ≡ None → row + h ≤ b.rows → col + w
    ≤ b.cols
    → r ≡ is_zero (window row h col w (matrix_of b))
    → (IsTrue r → window row h col w (matrix_of b) ≡ grid_block o h w)
    × (window row h col w (matrix_of b) ≡ grid_block o h w → IsTrue r)
zero-part o b row h col w r none rows cols is =
    let W : List (List ℕ) = window row h col w (matrix_of b) in
    let sized : Sized h w W = sized-window row h col w b.rows b.cols (matrix_of b)
    (sized-cut b.rows b.cols b.entries (omega (arith, b.full))) rows cols in
    let zeros_are : grid_block o h w ≡ zero_matrix h w = ap (λ p. grid_block p h w) none in (
      λ e. zero-zeros h w W sized (sym is ∙ e) ∙ sym zeros_are,
      λ e. is ∙ ap is_zero (e ∙ zeros_are) ∙ zeros-zero h w,
    )

-- a block that stands has h rows and w columns
abbrev pub HasShape : Option Block → ℕ → ℕ → Type 0
HasShape o h w = (b : Block) → o ≡ Some b → (b.rows ≡ h) × (b.cols ≡ w)

pub corner-sized : (o : Option Block) (h w : ℕ) → HasShape o h w → Sized h w (grid_block o h w)
corner-sized None h w s = sized-zeros h w
corner-sized (Some b) h w s =
    let is = s b refl in
    subst (λ m. Sized m w (matrix_of b)) is.0
    (subst (λ n. Sized b.rows n (matrix_of b)) is.1 (sized-cut b.rows b.cols b.entries (omega (arith, b.full))))

pub corner-row : (o : Option Block) (h w k : ℕ) → k < h → corner_row o w k ≡ get_or (grid_block o h w) k []
corner-row None h w k l = zeros-row h w k l
corner-row (Some b) h w k l = refl

corner_row-size : (o : Option Block) (h w k : ℕ) → HasShape o h w → k < h → length (corner_row o w k) ≡ w
corner_row-size o h w k s l = ap length (corner-row o h w k l)
    ∙ sized-row h w (grid_block o h w) k (corner-sized o h w s) l

-- rows that stand have each row below their height
pub shaped-row : (line : ByCell Block) (h k : ℕ) (left : List (ℕ × ℕ)) → AreShaped line h left → k < h
    → HaveRow line k left
shaped-row line h k left s l = λ i d inside b e. let is = s i d inside b e in omega (arith, is.0, l)

-- a row of blocks of one entry each, at the row at k
corner-scalar : (o : Option ℕ) (w k : ℕ) → ((b : Block) → option_map scalar_block o ≡ Some b → k < b.rows)
    → corner_row (option_map scalar_block o) w k ≡ scalar_row o w
corner-scalar None w k h = refl
corner-scalar (Some e) w k h =
    let first : 0 ≡ k = omega (arith, h (scalar_block e) refl) in
    subst (λ i. get_or (matrix_of (scalar_block e)) i [] ≡ e ∷ []) first refl

module _ (line : ByCell Block) (entries : ByCell ℕ)
    (are : (q : ℕ) → entry line q ≡ option_map scalar_block (entry entries q)) where
  pub joined-scalars : (left : List (ℕ × ℕ)) (k : ℕ) → HaveRow line k left → joined_row line left k
      ≡ entry_row entries left
  joined-scalars [] k h = refl
  joined-scalars (x ∷ xs) k h =
      ap₂ (λ a b. a ++ b)
      (ap (λ o. corner_row o x.1 k) (are x.0)
      ∙ corner-scalar (entry entries x.0) x.1 k
      (λ b e. All-head (λ l. (b : Block) → entry line l.0 ≡ Some b → k < b.rows) x xs h b (are x.0 ∙ e)))
      (joined-scalars xs k (All-tail (λ l. (b : Block) → entry line l.0 ≡ Some b → k < b.rows) x xs h))

  pub scalars-shaped : (h : ℕ) (left : List (ℕ × ℕ)) → AreShaped line h left → AreScalars entries h left
  scalars-shaped h left shaped = λ i d inside e is.
      let shape = shaped i d inside (scalar_block e)
      (are (get_or left i d).0 ∙ ap (option_map scalar_block) is) in
      (sym shape.0, sym shape.1)

  pub same-scalar : (left : List (ℕ × ℕ)) (A : List (List ℕ)) (row h i : ℕ)
      → (IsSameScalar entries left A row h i → IsSamePart line left A row h i)
      × (IsSamePart line left A row h i → IsSameScalar entries left A row h i)
  same-scalar left A row h i =
      let x = get_or left i (0, 0) in (
        λ s. s ∙ ap (λ o. grid_block o h x.1) (sym (are x.0)),
        λ s. s ∙ ap (λ o. grid_block o h x.1) (are x.0),
      )

-- the rows of one cell below, as a list of n rows
abbrev pub rows_list : ByCell Block → List (ℕ × ℕ) → ℕ → List (List ℕ)
rows_list line left zero = []
rows_list line left (suc n) = rows_list line left n ++ joined_row line left n ∷ []

pub joined_rows-next : (line : ByCell Block) (left : List (ℕ × ℕ)) (k : ℕ) → joined_rows line left (k + 1)
    ≡ joined_rows line left k ++ joined_row line left k
joined_rows-next line left k = ap (joined_rows line left) (add-one k)

flat-rows : (line : ByCell Block) (left : List (ℕ × ℕ)) (n : ℕ) → flat (rows_list line left n) ≡ joined_rows line left n
flat-rows line left zero = refl
flat-rows line left (suc n) =
    flat-append (rows_list line left n) (joined_row line left n ∷ [])
    ∙ ap₂ (λ a b. a ++ b) (flat-rows line left n) (append-nil (joined_row line left n))

module _ (line : ByCell Block) (h : ℕ) where
  row-size : (left : List (ℕ × ℕ)) (k : ℕ) → AreShaped line h left → k < h → length (joined_row line left k)
      ≡ width left
  row-size [] k s l = refl
  row-size (x ∷ xs) k s l =
      length-append (corner_row (entry line x.0) x.1 k) (joined_row line xs k)
      ∙ ap₂ (λ a b. a + b) (corner_row-size (entry line x.0) h x.1 k
      (All-head (λ x. HasShape (entry line x.0) h x.1) x xs s) l)
      (row-size xs k (All-tail (λ x. HasShape (entry line x.0) h x.1) x xs s) l)

  rows-sized : (left : List (ℕ × ℕ)) → AreShaped line h left → (n : ℕ) → n ≤ h
      → Sized n (width left) (rows_list line left n)
  rows-sized left s zero l = tt
  rows-sized left s (suc n) l =
      subst (λ m. Sized m (width left) (rows_list line left n ++ joined_row line left n ∷ [])) (add-one n)
      (sized-append n 1 (width left) (rows_list line left n) (joined_row line left n ∷ [])
      (rows-sized left s n (omega arith)) (row-size left n s (omega arith), tt))

module _ (line : ByCell Block) (h : ℕ) (size : ℕ → ℕ) where
  -- the stretch of a row that belongs to a listed cell
  segment-row : (left : List (ℕ × ℕ)) → AreShaped line h left → All (λ x. size x.0 ≡ x.1) left → (k : ℕ) → k < h
      → (s : ℕ) → has s (keys left) ≡ true
      → segment left (joined_row line left k) s ≡ corner_row (entry line s) (size s) k
  segment-row [] sh sz k l s m = absurd (let e : false ≡ true = m in cc)
  segment-row (x ∷ xs) sh sz k l s m =
      go (cases_eq x.0 s) (λ n. segment-row xs (All-tail (λ x. HasShape (entry line x.0) h x.1) x xs sh)
      (All-tail (λ x. size x.0 ≡ x.1) x xs sz) k l s n) m
    where
      here : List ℕ
      here = corner_row (entry line x.0) x.1 k

      rest : List ℕ
      rest = joined_row line xs k

      full : length here ≡ x.1
      full = corner_row-size (entry line x.0) h x.1 k (All-head (λ x. HasShape (entry line x.0) h x.1) x xs sh) l

      go : (x.0 ≡ s) ⊎ (x.0 ≡ s → ⊥)
          → (has s (keys xs) ≡ true → segment xs rest s ≡ corner_row (entry line s) (size s) k)
          → (eqb x.0 s || has s (keys xs)) ≡ true
          → cond (eqb x.0 s) (take x.1 (here ++ rest)) (segment xs (drop x.1 (here ++ rest)) s)
          ≡ corner_row (entry line s) (size s) k
      go (inl e) f n =
          ap (λ b. cond b (take x.1 (here ++ rest)) (segment xs (drop x.1 (here ++ rest)) s)) (eq-eqb x.0 s e)
          ∙ take_at here rest x.1 full
          ∙ ap (λ w. corner_row (entry line x.0) w k) (sym (All-head (λ x. size x.0 ≡ x.1) x xs sz))
          ∙ ap (λ c. corner_row (entry line c) (size c) k) e
      go (inr d) f n =
          ap (λ b. cond b (take x.1 (here ++ rest)) (segment xs (drop x.1 (here ++ rest)) s)) (ne_eqb x.0 s d)
          ∙ ap (λ ys. segment xs ys s) (drop_at here rest x.1 full)
          ∙ f (ap (λ b. b || has s (keys xs)) (sym (ne_eqb x.0 s d)) ∙ n)

  -- the shape of the block at a listed cell
  pub shape-at : (left : List (ℕ × ℕ)) → AreShaped line h left → All (λ x. size x.0 ≡ x.1) left → (s : ℕ)
      → has s (keys left) ≡ true → HasShape (entry line s) h (size s)
  shape-at left sh sz s m =
      let p = place_of (keys left) s m in
      let l : p.at < length left = omega (arith, p.inside, length-map left (λ x. x.0)) in
      let is : (get_or left p.at (0, 0)).0 ≡ s = sym (get_or-map (λ x. x.0) left p.at (0, 0) 0 l) ∙ p.is in
      subst (λ c. HasShape (entry line c) h (size c)) is
      (subst (λ w. HasShape (entry line (get_or left p.at (0, 0)).0) h w) (sym (sz p.at (0, 0) l)) (sh p.at (0, 0) l))

  -- the columns of a listed cell are its block
  part-rows : (left : List (ℕ × ℕ)) → AreShaped line h left → All (λ x. size x.0 ≡ x.1) left → (s : ℕ)
      → has s (keys left) ≡ true
      → (n : ℕ) → n ≤ h → map (λ row. segment left row s) (rows_list line left n)
      ≡ take n (grid_block (entry line s) h (size s))
  part-rows left sh sz s m zero l = refl
  part-rows left sh sz s m (suc n) l =
      let C : List (List ℕ) = grid_block (entry line s) h (size s) in
      let count : length C ≡ h =
      sized-size h (size s) C (corner-sized (entry line s) h (size s) (shape-at left sh sz s m)) in
      map-append (λ row. segment left row s) (rows_list line left n) (joined_row line left n ∷ [])
      ∙ ap₂ (λ A r. A ++ r ∷ []) (part-rows left sh sz s m n (omega arith)) (segment-row left sh sz n (omega arith) s m
      ∙ corner-row (entry line s) h (size s) n (omega arith))
      ∙ sym (take_more C n [] (omega (arith, count))) ∙ ap (λ j. take j C) (add-one n)

  pub part-row : (left : List (ℕ × ℕ)) → AreShaped line h left → All (λ x. size x.0 ≡ x.1) left → (s : ℕ)
      → has s (keys left) ≡ true
      → map (λ row. segment left row s) (rows_list line left h) ≡ grid_block (entry line s) h (size s)
  part-row left sh sz s m =
      let C : List (List ℕ) = grid_block (entry line s) h (size s) in
      let count : length C ≡ h =
      sized-size h (size s) C (corner-sized (entry line s) h (size s) (shape-at left sh sz s m)) in
      part-rows left sh sz s m h (omega arith) ∙ take_all h C (omega (arith, count))

-- the joined matrix, as a list of rows
abbrev pub joined_list : ByCell (ByCell Block) → List (ℕ × ℕ) → List (ℕ × ℕ) → List (List ℕ)
joined_list rows left below = flat_map (λ t. rows_list (line_of rows t.0) left t.1) below

flat-joined : (rows : ByCell (ByCell Block)) (left below : List (ℕ × ℕ)) → flat (joined_list rows left below)
    ≡ joined_entries rows left below
flat-joined rows left [] = refl
flat-joined rows left (x ∷ xs) =
    flat-append (rows_list (line_of rows x.0) left x.1) (joined_list rows left xs)
    ∙ ap₂ (λ a b. a ++ b) (flat-rows (line_of rows x.0) left x.1) (flat-joined rows left xs)

module _ (rows : ByCell (ByCell Block)) (left : List (ℕ × ℕ)) where
  abbrev Shaped : ℕ × ℕ → Type 0
  Shaped t = AreShaped (line_of rows t.0) t.1 left

  joined-sized : (below : List (ℕ × ℕ)) → All (λ t. AreShaped (line_of rows t.0) t.1 left) below
      → Sized (width below) (width left) (joined_list rows left below)
  joined-sized [] s = tt
  joined-sized (x ∷ xs) s =
      sized-append x.1 (width xs) (width left) (rows_list (line_of rows x.0) left x.1) (joined_list rows left xs)
      (rows-sized (line_of rows x.0) x.1 left (All-head Shaped x xs s) x.1 (omega arith))
      (joined-sized xs (All-tail Shaped x xs s))

  -- the rows of a cell below
  segment-joined : (size : ℕ → ℕ) (below : List (ℕ × ℕ)) → All (λ t. AreShaped (line_of rows t.0) t.1 left) below
      → All (λ x. size x.0 ≡ x.1) below
      → (t : ℕ) → has t (keys below) ≡ true → segment below (joined_list rows left below) t ≡ rows_list (line_of rows t)
      left (size t)
  segment-joined size [] sh sz t m = absurd (let e : false ≡ true = m in cc)
  segment-joined size (x ∷ xs) sh sz t m =
      go (cases_eq x.0 t) (λ n. segment-joined size xs (All-tail Shaped x xs sh)
      (All-tail (λ x. size x.0 ≡ x.1) x xs sz) t n) m
    where
      here : List (List ℕ)
      here = rows_list (line_of rows x.0) left x.1

      rest : List (List ℕ)
      rest = joined_list rows left xs

      full : length here ≡ x.1
      full = sized-size x.1 (width left) here (rows-sized (line_of rows x.0) x.1 left (All-head Shaped x xs sh) x.1
          (omega arith))

      go : (x.0 ≡ t) ⊎ (x.0 ≡ t → ⊥)
          → (has t (keys xs) ≡ true → segment xs rest t ≡ rows_list (line_of rows t) left (size t))
          → (eqb x.0 t || has t (keys xs)) ≡ true
          → cond (eqb x.0 t) (take x.1 (here ++ rest)) (segment xs (drop x.1 (here ++ rest)) t)
          ≡ rows_list (line_of rows t) left (size t)
      go (inl e) f n =
          ap (λ b. cond b (take x.1 (here ++ rest)) (segment xs (drop x.1 (here ++ rest)) t)) (eq-eqb x.0 t e)
          ∙ take_at here rest x.1 full
          ∙ ap (rows_list (line_of rows x.0) left) (sym (All-head (λ x. size x.0 ≡ x.1) x xs sz))
          ∙ ap (λ c. rows_list (line_of rows c) left (size c)) e
      go (inr d) f n =
          ap (λ b. cond b (take x.1 (here ++ rest)) (segment xs (drop x.1 (here ++ rest)) t)) (ne_eqb x.0 t d)
          ∙ ap (λ ys. segment xs ys t) (drop_at here rest x.1 full)
          ∙ f (ap (λ b. b || has t (keys xs)) (sym (ne_eqb x.0 t d)) ∙ n)

-- the rows of a sound block complex have the shapes of the listed cells
module _ (v : StoredBlocks) (left below : List (ℕ × ℕ)) (sound : IsSound v.live v.rows v.columns)
    (sl : AreSized v.live left) (sb : AreSized v.live below) where
  pub rows-shaped : (j : ℕ) (d : ℕ × ℕ) → j < length below → AreShaped (line_of v.rows (get_or below j d).0)
      (get_or below j d).1 left
  rows-shaped j d l = λ i e m b is.
      let fits = sound.blocks_fit (get_or left i e).0 (get_or below j d).0 b is in
      (fits.rows ∙ (sb j d l).1, fits.cols ∙ (sl i e m).1)

  left_is : All (λ x. size_of v.live x.0 ≡ x.1) left
  left_is = λ i d l. (sl i d l).1

  below_is : All (λ x. size_of v.live x.0 ≡ x.1) below
  below_is = λ i d l. (sb i d l).1

  -- the entries of the joined matrix
  pub entries-full : (xs : List ℕ) → xs ≡ joined_entries v.rows left below → length xs ≡ width below * width left
  entries-full xs e =
      ap length (e ∙ sym (flat-joined v.rows left below))
      ∙ flat-size (width below) (width left) (joined_list v.rows left below)
      (joined-sized v.rows left below rows-shaped)

  pub joined-parts : (m n : ℕ) (xs : List ℕ) → m ≡ width below → n ≡ width left → xs ≡ joined_entries v.rows left below
      → IsJoined v left below (cut m n xs)
  joined-parts m n xs r c e s t hs ht =
      let A : List (List ℕ) = joined_list v.rows left below in
      let size : ℕ → ℕ = size_of v.live in
      let is : cut m n xs ≡ A =
      ap₂ (λ m n. cut m n xs) r c
      ∙ ap (cut (width below) (width left)) (e ∙ sym (flat-joined v.rows left below))
      ∙ cut-flat (width below) (width left) A (joined-sized v.rows left below rows-shaped) in
      let shaped : AreShaped (line_of v.rows t) (size t) left = λ i d m b is.
      let fits = sound.blocks_fit (get_or left i d).0 t b is in (fits.rows, fits.cols ∙ (sl i d m).1) in
      ap (λ M. part left below M s t) is
      ∙ ap (map (λ row. segment left row s)) (segment-joined v.rows left size below rows-shaped below_is t ht)
      ∙ part-row (line_of v.rows t) (size t) size left shaped left_is s hs
      ∙ sym (corner-matrix v s t (size t) (size s) refl refl)

-- listed cells have no more coordinates than all live cells
shrink : (x : ℕ × ℕ × ℕ) (xs : List (ℕ × ℕ × ℕ)) (ls : List (ℕ × ℕ)) → AreSized (x ∷ xs) ls → All (λ l. x.0 ≢ l.0) ls
    → AreSized xs ls
shrink x xs ls h ne = λ i d l.
    let c : ℕ = (get_or ls i d).0 in
    let other : eqb x.0 c ≡ false = ne_eqb x.0 c (ne i d l) in (
      ap (λ b. b || has c (cells xs)) (sym other) ∙ (h i d l).0,
      sym (ap (λ b. cond b x.2 (size_of xs c)) other)
          ∙ (h i d l).1,
    )

pub width-live : (live : List (ℕ × ℕ × ℕ)) (ls : List (ℕ × ℕ)) → IsRising (cells live) → IsRising (keys ls)
    → AreSized live ls → width ls ≤ live_size live
width-live live [] r s h = omega arith
width-live [] (l ∷ ls) r s h = absurd (let e : false ≡ true = (h 0 (0, 0) (omega arith)).0 in cc)
width-live (x ∷ xs) (l ∷ ls) r s h = go (cases_eq x.0 l.0)
    (λ ne. width-live xs ls (rising_tail x.0 (cells xs) r) (rising_tail l.0 (keys ls) s) (shrink x xs ls tail ne))
    (λ ne. width-live xs (l ∷ ls) (rising_tail x.0 (cells xs) r) s (shrink x xs (l ∷ ls) h ne))
  where
    tail : AreSized (x ∷ xs) ls
    tail = All-tail (λ l. (has l.0 (cells (x ∷ xs)) ≡ true) × (size_of (x ∷ xs) l.0 ≡ l.1)) l ls h

    later : (i : ℕ) (d : ℕ × ℕ) → i < length ls → l.0 < (get_or ls i d).0
    later i d m = omega (
      arith,
      rising_head l.0 (keys ls) s i (omega (arith, m, length-map ls (λ s. s.0))),
      get_or-map (λ s. s.0) ls i d 0 m,
    )

    go : (x.0 ≡ l.0) ⊎ (x.0 ≡ l.0 → ⊥) → (All (λ l. x.0 ≢ l.0) ls → width ls ≤ live_size xs)
        → (All (λ l. x.0 ≢ l.0) (l ∷ ls) → width (l ∷ ls) ≤ live_size xs)
        → width (l ∷ ls) ≤ live_size (x ∷ xs)
    go (inl e) f g =
        let size : x.2 ≡ l.1 = sym (ap (λ b. cond b x.2 (size_of xs l.0)) (eq-eqb x.0 l.0 e))
        ∙ (h 0 (0, 0) (omega arith)).1 in
        omega (arith, size, f (λ i d m n. absurd (omega (arith, later i d m, e, n))))
    go (inr n) f g =
        let other : has l.0 (cells xs) ≡ true = ap (λ b. b || has l.0 (cells xs)) (sym (ne_eqb x.0 l.0 n))
        ∙ (h 0 (0, 0) (omega arith)).0 in
        let p = place_of (cells xs) l.0 other in
        let above : x.0 < l.0 = omega (arith, rising_head x.0 (cells xs) r p.at p.inside, p.is) in
        omega (arith, g (apart above))
      where
        apart : x.0 < l.0 → (i : ℕ) (d : ℕ × ℕ) → i < length (l ∷ ls) → x.0 ≢ (get_or (l ∷ ls) i d).0
        apart u zero d m e = n e
        apart u (suc i) d m e = absurd (omega (arith, later i d (omega arith), u, e))
