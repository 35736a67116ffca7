-- What a joined matrix leaves when its parts have come in.
use Rattle.std.proofs.Common.{◌≡◌, ◌≢◌, ℕ, zero, suc, ◌<◌, ◌+◌, Bool, true, false, cond, ◌&&◌, ◌||◌, refl, sym, ap, ap₂}
use Rattle.std.proofs.Common.{◌∙◌, subst, arith, ◌⊎◌, inl, inr, List, [], ◌∷◌, length, map, get_or, take, drop, Option}
use Rattle.std.proofs.Common.{Some, None, eqb, Result, Ok, Err}
use Rattle.std.specs.Option.{unwrap_or, option_map}
use Rattle.std.specs.Result.{IfOk}
use Rattle.std.proofs.lemmas.Bool.{eq-eqb, ne_eqb, cases_eq, cases_Bool}
use Rattle.std.proofs.lemmas.List.{drop-drop, length-map, get_or-map}
use Rattle.dense_blocks.specs.declared.block.Block.{Block}
use Rattle.dense_blocks.proofs.Cutting.{Sized, sized-size}
use Rattle.rising_lists.specs.Rising.{ByCell, IsRising, has, keys, look, entry, entry_of, line_of, entry_after}
use Rattle.rising_lists.proofs.Keyed.{rising_tail, rising_head, place_of, has-at, look-at, look-absent}
use Rattle.open_columns.specs.declared.mark.Mark.{Mark}
use Rattle.block_complexes.specs.BlockComplexes.{cells, size_of, degree_of}
use Rattle.block_sparse.specs.StoredBlocks.{stored_block, is_zero}
use Rattle.block_sparse.specs.Grids.{width, segment, part, as_block, window, IsPart, AreSized}
use Rattle.block_sparse.specs.Fresh.{mark_of, IsFreshRow, line_at, AreFreshRows, AreFreshColumns}
use Rattle.block_sparse.specs.Invariants.{IsSound, is_square}

abbrev no_line : {T : Type 0} → ByCell T
no_line = record { cells = []; values = [] }

-- the segment of the cell at a place
pub segment-at : {T : Type 0} (ls : List (ℕ × ℕ)) → IsRising (keys ls) → (xs : List T) (i : ℕ) → i < length ls
    → segment ls xs (get_or (keys ls) i 0) ≡ take (get_or ls i (0, 0)).1 (drop (width (take i ls)) xs)
segment-at [] r xs i l = absurd (omega arith)
segment-at (x ∷ ls) r xs zero l = rw (eq-eqb x.0 x.0 refl) refl
segment-at {T} (x ∷ ls) r xs (suc i) l =
    let apart : x.0 ≢ get_or (keys ls) i 0 = λ e.
    absurd (omega (arith, rising_head x.0 (keys ls) r i (omega (arith, length-map ls (λ s. s.0))))) in
    rw (ne_eqb x.0 (get_or (keys ls) i 0) apart)
    (segment-at ls (rising_tail x.0 (keys ls) r) (drop x.1 xs) i (omega arith)
    ∙ ap (take (get_or ls i (0, 0)).1) (drop-drop (width (take i ls)) x.1 xs))

pub map-same : {S T : Type 0} (f g : S → T) → ((x : S) → f x ≡ g x) → (xs : List S) → map f xs ≡ map g xs
map-same f g h [] = refl
map-same f g h (x ∷ xs) = ap₂ ◌∷◌ (h x) (map-same f g h xs)

pub part-window : (left below : List (ℕ × ℕ)) (A : List (List ℕ)) (i j : ℕ) → IsRising (keys left)
    → IsRising (keys below) → i < length left → j < length below
    → part left below A (get_or (keys left) i 0) (get_or (keys below) j 0)
    ≡ window (width (take j below)) (get_or below j (0, 0)).1 (width (take i left)) (get_or left i (0, 0)).1 A
part-window left below A i j rl rb li lj =
    ap (map (λ row. segment left row (get_or (keys left) i 0))) (segment-at below rb A j lj)
    ∙ map-same (λ row. segment left row (get_or (keys left) i 0))
    (λ row. take (get_or left i (0, 0)).1 (drop (width (take i left)) row))
    (λ row. segment-at left rl row i li) (take (get_or below j (0, 0)).1 (drop (width (take j below)) A))

-- the line of a listed cell is the one that was put there
pub line-installed : {T : Type 0} (lines new : ByCell (ByCell T)) (outer : List (ℕ × ℕ)) (fresh : List (ByCell T))
    → IsRising (keys outer) → length fresh ≡ length outer
    → ((k : ℕ) → line_of new k ≡ unwrap_or (look k (keys outer) fresh) (line_of lines k))
    → (j : ℕ) → j < length outer → line_of new (get_or (keys outer) j 0) ≡ line_at fresh j
line-installed {T} lines new outer fresh r n h j l =
    let size : length (keys outer) ≡ length outer = length-map outer (λ s. s.0) in
    h (get_or (keys outer) j 0)
    ∙ ap (λ x. unwrap_or x (line_of lines (get_or (keys outer) j 0)))
    (look-at (keys outer) fresh (n ∙ sym size) r j (no_line {T = T}) (omega arith))

pub line-spared : {T : Type 0} (lines new : ByCell (ByCell T)) (outer : List (ℕ × ℕ)) (fresh : List (ByCell T))
    → ((k : ℕ) → line_of new k ≡ unwrap_or (look k (keys outer) fresh) (line_of lines k))
    → (k : ℕ) → has k (keys outer) ≡ false → line_of new k ≡ line_of lines k
line-spared lines new outer fresh h k n = h k ∙ ap (λ x. unwrap_or x (line_of lines k))
    (look-absent k (keys outer) fresh n)

-- the value at a listed cell is the fresh one
pub entry-updated : {T : Type 0} (old new : ByCell T) (inner : List (ℕ × ℕ)) (parts : List (Option T))
    → IsRising (keys inner) → length parts ≡ length inner
    → ((q : ℕ) → entry new q ≡ entry_after (keys inner) parts (entry old q) q)
    → (i : ℕ) → i < length inner → entry new (get_or (keys inner) i 0) ≡ get_or parts i None
entry-updated old new inner parts r n h i l =
    let size : length (keys inner) ≡ length inner = length-map inner (λ s. s.0) in
    h (get_or (keys inner) i 0)
    ∙ ap (λ x. unwrap_or x (entry old (get_or (keys inner) i 0)))
    (look-at (keys inner) parts (n ∙ sym size) r i None (omega arith))

pub entry-kept : {T : Type 0} (old new : ByCell T) (inner : List (ℕ × ℕ)) (parts : List (Option T))
    → ((q : ℕ) → entry new q ≡ entry_after (keys inner) parts (entry old q) q)
    → (q : ℕ) → has q (keys inner) ≡ false → entry new q ≡ entry old q
entry-kept old new inner parts h q n = h q ∙ ap (λ x. unwrap_or x (entry old q)) (look-absent q (keys inner) parts n)

-- rows and columns after a joined matrix has come in
pub record IsDone (A : List (List ℕ)) (left below : List (ℕ × ℕ)) (rows rows' : ByCell (ByCell Block))
    (columns columns' : ByCell (ByCell Mark)) : Type 0 where
  pub row_in : (i j : ℕ) → i < length left → j < length below
      → IsPart (entry_of rows' (get_or (keys below) j 0) (get_or (keys left) i 0))
      (get_or below j (0, 0)).1 (get_or left i (0, 0)).1
      (part left below A (get_or (keys left) i 0) (get_or (keys below) j 0))
  pub row_out : (s t : ℕ) → (has s (keys left) && has t (keys below)) ≡ false → entry_of rows' t s ≡ entry_of rows t s
  pub column_in : (i j : ℕ) → i < length left → j < length below → entry_of columns' (get_or (keys left) i 0)
      (get_or (keys below) j 0)
      ≡ mark_of (get_or below j (0, 0)).1 (get_or left i (0, 0)).1
      (part left below A (get_or (keys left) i 0) (get_or (keys below) j 0))
  pub column_out : (s t : ℕ) → (has s (keys left) && has t (keys below)) ≡ false → entry_of columns' s t
      ≡ entry_of columns s t

module _ (A : List (List ℕ)) (left below : List (ℕ × ℕ)) (rl : IsRising (keys left)) (rb : IsRising (keys below))
    (rows rows' : ByCell (ByCell Block)) (fresh_rows : List (ByCell Block))
    (count_rows : length fresh_rows ≡ length below)
    (are_rows : AreFreshRows A left below rows fresh_rows (length below))
    (put_rows : (k : ℕ) → line_of rows' k ≡ unwrap_or (look k (keys below) fresh_rows) (line_of rows k))
    (columns columns' : ByCell (ByCell Mark)) (fresh_columns : List (ByCell Mark)) (count_columns : length fresh_columns
    ≡ length left)
    (are_columns : AreFreshColumns A left below columns fresh_columns (length left))
    (put_columns : (k : ℕ) → line_of columns' k ≡ unwrap_or (look k (keys left) fresh_columns) (line_of columns k))
  where
    key_is : (ls : List (ℕ × ℕ)) (i : ℕ) → i < length ls → (get_or ls i (0, 0)).0 ≡ get_or (keys ls) i 0
    key_is ls i l = sym (get_or-map (λ s. s.0) ls i (0, 0) 0 l)

    row_in : (i j : ℕ) → i < length left → j < length below
        → IsPart (entry_of rows' (get_or (keys below) j 0) (get_or (keys left) i 0))
        (get_or below j (0, 0)).1 (get_or left i (0, 0)).1
        (part left below A (get_or (keys left) i 0) (get_or (keys below) j 0))
    row_in i j li lj =
        let f = are_rows j lj in
        let t : ℕ = get_or (keys below) j 0 in
        let s : ℕ = get_or (keys left) i 0 in
        let is : entry_of rows' t s ≡ get_or f.parts i None =
        ap (λ l. entry l s) (line-installed rows rows' below fresh_rows rb count_rows put_rows j lj)
        ∙ entry-updated (line_of rows (get_or below j (0, 0)).0) (line_at fresh_rows j) left f.parts rl f.count
        f.entries i li in
        subst (λ B. IsPart (entry_of rows' t s) (get_or below j (0, 0)).1 (get_or left i (0, 0)).1 B)
        (sym (part-window left below A i j rl rb li lj))
        (subst (λ p. IsPart p (get_or below j (0, 0)).1 (get_or left i (0, 0)).1
        (window (width (take j below)) (get_or below j (0, 0)).1 (width (take i left)) (get_or left i (0, 0)).1 A))
        (sym is) (f.are i li))

    row_out : (s t : ℕ) → (has s (keys left) && has t (keys below)) ≡ false → entry_of rows' t s ≡ entry_of rows t s
    row_out s t n = elim (cases_Bool (has t (keys below))) [
      | inr e ↦ ap (λ l. entry l s) (line-spared rows rows' below fresh_rows put_rows t e)
      | inl e ↦
          let p = place_of (keys below) t e in
          let lj : p.at < length below = omega (arith, p.inside, length-map below (λ s. s.0)) in
          let f = are_rows p.at lj in
          ap (λ l. entry l s) (ap (line_of rows') (sym p.is) ∙ line-installed rows rows' below fresh_rows rb count_rows
          put_rows p.at lj)
          ∙ entry-kept (line_of rows (get_or below p.at (0, 0)).0) (line_at fresh_rows p.at) left f.parts f.entries s
          (first (has s (keys left)) (has t (keys below)) e n)
          ∙ ap (λ k. entry_of rows k s) (key_is below p.at lj ∙ p.is)
    ]
      where
        first : (a b : Bool) → b ≡ true → (a && b) ≡ false → a ≡ false
        first true true e n = n
        first true false e n = absurd (let f : false ≡ true = e in cc)
        first false b e n = refl

    column_in : (i j : ℕ) → i < length left → j < length below → entry_of columns' (get_or (keys left) i 0)
        (get_or (keys below) j 0)
        ≡ mark_of (get_or below j (0, 0)).1 (get_or left i (0, 0)).1
        (part left below A (get_or (keys left) i 0) (get_or (keys below) j 0))
    column_in i j li lj =
        let f = are_columns i li in
        let t : ℕ = get_or (keys below) j 0 in
        let s : ℕ = get_or (keys left) i 0 in
        ap (λ l. entry l t) (line-installed columns columns' left fresh_columns rl count_columns put_columns i li)
        ∙ entry-updated (line_of columns (get_or left i (0, 0)).0) (line_at fresh_columns i) below f.marks rb f.count
        f.entries j lj
        ∙ f.are j lj
        ∙ ap (mark_of (get_or below j (0, 0)).1 (get_or left i (0, 0)).1)
        (sym (part-window left below A i j rl rb li lj))

    column_out : (s t : ℕ) → (has s (keys left) && has t (keys below)) ≡ false → entry_of columns' s t
        ≡ entry_of columns s t
    column_out s t n = elim (cases_Bool (has s (keys left))) [
      | inr e ↦ ap (λ l. entry l t) (line-spared columns columns' left fresh_columns put_columns s e)
      | inl e ↦
          let p = place_of (keys left) s e in
          let li : p.at < length left = omega (arith, p.inside, length-map left (λ s. s.0)) in
          let f = are_columns p.at li in
          ap (λ l. entry l t) (ap (line_of columns') (sym p.is) ∙ line-installed columns columns' left fresh_columns rl
          count_columns put_columns p.at li)
          ∙ entry-kept (line_of columns (get_or left p.at (0, 0)).0) (line_at fresh_columns p.at) below f.marks
          f.entries t (second (has s (keys left)) (has t (keys below)) e n)
          ∙ ap (λ k. entry_of columns k t) (key_is left p.at li ∙ p.is)
    ]
      where
        second : (a b : Bool) → a ≡ true → (a && b) ≡ false → b ≡ false
        second true b e n = n
        second false b e n = absurd (let f : false ≡ true = e in cc)

    pub is_done : IsDone A left below rows rows' columns columns'
    is_done = record { row_in = row_in; row_out = row_out; column_in = column_in; column_out = column_out }

-- what a part and its mark make
standing-part : (p : Option Block) (h w : ℕ) (W : List (List ℕ)) → IsPart p h w W → stored_block p (mark_of h w W)
    ≡ as_block W
standing-part None h w W is = sym (ap (λ b. cond b None (Some (record { matrix = W; flagged = false }))) is)
standing-part (Some b) h w W is =
    ap (λ z. stored_block (Some b) (cond z None (Some (record { flagged = false; square = eqb h w })))) is.1
    ∙ ap (λ M. Some (record { matrix = M; flagged = false })) is.0.matrix_is
    ∙ sym (ap (λ z. cond z None (Some (record { matrix = W; flagged = false }))) is.1)

square-part : (p : Option Block) (h w : ℕ) (W : List (List ℕ)) → IsPart p h w W
    → option_map (λ (m : Mark). m.square) (mark_of h w W) ≡ option_map is_square p
square-part None h w W is =
    ap (λ b. option_map (λ (m : Mark). m.square) (cond b None (Some (record { flagged = false; square = eqb h w })))) is
square-part (Some b) h w W is =
    ap (λ z. option_map (λ (m : Mark). m.square) (cond z None (Some (record { flagged = false; square = eqb h w }))))
    is.1
    ∙ ap₂ (λ m n. Some (eqb m n)) (sym is.0.rows_are) (sym is.0.columns_are)

both : (a b : Bool) → (a && b) ≡ true → (a ≡ true) × (b ≡ true)
both true true e = (refl, refl)
both true false e = absurd (let f : false ≡ true = e in cc)
both false b e = absurd (let f : false ≡ true = e in cc)

module _ (A : List (List ℕ)) (left below : List (ℕ × ℕ)) (live : List (ℕ × ℕ × ℕ)) (rows rows' : ByCell (ByCell Block))
    (columns columns' : ByCell (ByCell Mark))
    (done : IsDone A left below rows rows' columns columns') where
  pub record Inside (s t : ℕ) : Type 0 where
    pub i : ℕ
    pub j : ℕ
    pub i_in : i < length left
    pub j_in : j < length below
    pub row : IsPart (entry_of rows' t s) (get_or below j (0, 0)).1 (get_or left i (0, 0)).1 (part left below A s t)
    pub column : entry_of columns' s t ≡ mark_of (get_or below j (0, 0)).1 (get_or left i (0, 0)).1
        (part left below A s t)
    pub s_is : (get_or left i (0, 0)).0 ≡ s
    pub t_is : (get_or below j (0, 0)).0 ≡ t

  inside : (s t : ℕ) → (has s (keys left) && has t (keys below)) ≡ true → Inside s t
  inside s t e =
      let b = both (has s (keys left)) (has t (keys below)) e in
      let p = place_of (keys left) s b.0 in
      let q = place_of (keys below) t b.1 in
      let li : p.at < length left = omega (arith, p.inside, length-map left (λ s. s.0)) in
      let lj : q.at < length below = omega (arith, q.inside, length-map below (λ s. s.0)) in
      record {
        i = p.at;
        j = q.at;
        i_in = li;
        j_in = lj;
        row = subst (λ x. IsPart (entry_of rows' t x) (get_or below q.at (0, 0)).1 (get_or left p.at (0, 0)).1
            (part left below A x t)) p.is
            (subst (λ y. IsPart (entry_of rows' y (get_or (keys left) p.at 0)) (get_or below q.at (0, 0)).1
            (get_or left p.at (0, 0)).1 (part left below A (get_or (keys left) p.at 0) y)) q.is
            (done.row_in p.at q.at li lj));
        column = subst (λ x. entry_of columns' x t ≡ mark_of (get_or below q.at (0, 0)).1 (get_or left p.at (0, 0)).1
            (part left below A x t)) p.is
            (subst (λ y. entry_of columns' (get_or (keys left) p.at 0) y ≡ mark_of (get_or below q.at (0, 0)).1
            (get_or left p.at (0, 0)).1 (part left below A (get_or (keys left) p.at 0) y)) q.is
            (done.column_in p.at q.at li lj));
        s_is = sym (get_or-map (λ s. s.0) left p.at (0, 0) 0 li) ∙ p.is;
        t_is = sym (get_or-map (λ s. s.0) below q.at (0, 0) 0 lj) ∙ q.is;
      }

  pub block_at-done : (s t : ℕ) → stored_block (entry_of rows' t s) (entry_of columns' s t)
      ≡ cond (has s (keys left) && has t (keys below)) (as_block (part left below A s t))
      (stored_block (entry_of rows t s) (entry_of columns s t))
  block_at-done s t = elim (cases_Bool (has s (keys left) && has t (keys below))) [
    | inl e ↦
        let p = inside s t e in
        ap (stored_block (entry_of rows' t s)) p.column
        ∙ standing-part (entry_of rows' t s) (get_or below p.j (0, 0)).1 (get_or left p.i (0, 0)).1
        (part left below A s t) p.row
        ∙ sym (ap (λ b. cond b (as_block (part left below A s t))
        (stored_block (entry_of rows t s) (entry_of columns s t))) e)
    | inr e ↦
        ap₂ stored_block (done.row_out s t e) (done.column_out s t e)
        ∙ sym (ap (λ b. cond b (as_block (part left below A s t))
        (stored_block (entry_of rows t s) (entry_of columns s t))) e)
  ]

  pub sound-done : IsSound live rows columns → AreSized live left → AreSized live below
      → ((s t : ℕ) → has s (keys left) ≡ true → has t (keys below) ≡ true → degree_of live t ≡ degree_of live s + 1)
      → rows'.cells ≡ rows.cells → columns'.cells ≡ columns.cells → IsSound live rows' columns'
  sound-done sound sl sb degrees same_rows same_columns = record {
    live_cells = sound.live_cells;
    has_row = λ c h. ap (has c) same_rows ∙ sound.has_row c h;
    has_column = λ c h. ap (has c) same_columns ∙ sound.has_column c h;
    marks = λ s t. elim (cases_Bool (has s (keys left) && has t (keys below))) [
      | inl e ↦
          let p = inside s t e in
          ap (option_map (λ (m : Mark). m.square)) p.column
          ∙ square-part (entry_of rows' t s) (get_or below p.j (0, 0)).1 (get_or left p.i (0, 0)).1
          (part left below A s t) p.row
      | inr e ↦ ap (option_map (λ (m : Mark). m.square)) (done.column_out s t e) ∙ sound.marks s t
          ∙ ap (option_map is_square) (sym (done.row_out s t e))
    ];
    blocks_fit = λ s t b h. elim (cases_Bool (has s (keys left) && has t (keys below))) [
      | inl e ↦
          let p = inside s t e in
          let is = subst (λ x. IsPart x (get_or below p.j (0, 0)).1 (get_or left p.i (0, 0)).1 (part left below A s t))
          h p.row in
          let from = sl p.i (0, 0) p.i_in in
          let to = sb p.j (0, 0) p.j_in in
          let n = both (has s (keys left)) (has t (keys below)) e in
          record {
            between = record {
              from = ap (λ c. has c (cells live)) (sym p.s_is) ∙ from.0;
              to = ap (λ c. has c (cells live)) (sym p.t_is) ∙ to.0;
              degrees = degrees s t n.0 n.1;
            };
            rows = is.0.rows_are ∙ sym to.1 ∙ ap (size_of live) p.t_is;
            cols = is.0.columns_are ∙ sym from.1 ∙ ap (size_of live) p.s_is;
          }
      | inr e ↦ sound.blocks_fit s t b (sym (done.row_out s t e) ∙ h)
    ];
    nonzero = λ s t b h. elim (cases_Bool (has s (keys left) && has t (keys below))) [
      | inl e ↦
          let p = inside s t e in
          let is = subst (λ x. IsPart x (get_or below p.j (0, 0)).1 (get_or left p.i (0, 0)).1 (part left below A s t))
          h p.row in
          ap is_zero is.0.matrix_is ∙ is.1
      | inr e ↦ sound.nonzero s t b (sym (done.row_out s t e) ∙ h)
    ];
  }

-- a matrix put at one pair of cells is its own part
pub part-whole : (s t m n : ℕ) (A : List (List ℕ)) → Sized n m A → part ((s, m) ∷ []) ((t, n) ∷ []) A s t ≡ A
part-whole s t m n A h =
    rw (eq-eqb t t refl) (ap (map (λ row. segment ((s, m) ∷ []) row s)) (take_whole n A (sized-size n m A h))
    ∙ rows n A h)
  where
    take_whole : {T : Type 0} (k : ℕ) (xs : List T) → length xs ≡ k → take k xs ≡ xs
    take_whole zero [] e = refl
    take_whole (suc k) [] e = refl
    take_whole zero (x ∷ xs) e = absurd (omega arith)
    take_whole (suc k) (x ∷ xs) e = ap (λ ys. x ∷ ys) (take_whole k xs (omega arith))

    rows : (k : ℕ) (B : List (List ℕ)) → Sized k m B → map (λ row. segment ((s, m) ∷ []) row s) B ≡ B
    rows zero [] g = refl
    rows zero (r ∷ B) g = absurd g
    rows (suc k) [] g = absurd g
    rows (suc k) (r ∷ B) g = ap₂ ◌∷◌ (rw (eq-eqb s s refl) (take_whole m r g.0)) (rows k B g.1)

-- at one pair of cells
pub at_pair : {T : Type 0} (s t p q : ℕ) (x y z : T) → (p ≡ s → q ≡ t → x ≡ y)
    → cond ((eqb s p || false) && (eqb t q || false)) x z ≡ cond (eqb p s && eqb q t) y z
at_pair s t p q x y z h = go (cases_eq p s) (cases_eq q t)
  where
    go : (p ≡ s) ⊎ (p ≡ s → ⊥) → (q ≡ t) ⊎ (q ≡ t → ⊥) → cond ((eqb s p || false) && (eqb t q || false)) x z
        ≡ cond (eqb p s && eqb q t) y z
    go (inl e) (inl f) = rw (eq-eqb s p (sym e), eq-eqb t q (sym f), eq-eqb p s e, eq-eqb q t f) (h e f)
    go (inl e) (inr f) = rw (eq-eqb s p (sym e), ne_eqb t q (λ g. f (sym g)), eq-eqb p s e, ne_eqb q t f) refl
    go (inr e) f = rw (ne_eqb s p (λ g. e (sym g)), ne_eqb p s e) refl

-- listed cells are live
pub sized-live : (live : List (ℕ × ℕ × ℕ)) (ls : List (ℕ × ℕ)) → AreSized live ls → (c : ℕ) → has c (keys ls) ≡ true
    → has c (cells live) ≡ true
sized-live live ls h c e =
    let p = place_of (keys ls) c e in
    let l : p.at < length ls = omega (arith, p.inside, length-map ls (λ s. s.0)) in
    ap (λ k. has k (cells live)) (sym p.is ∙ get_or-map (λ s. s.0) ls p.at (0, 0) 0 l) ∙ (h p.at (0, 0) l).0

pub key-listed : (ls : List (ℕ × ℕ)) (i : ℕ) → i < length ls → has (get_or ls i (0, 0)).0 (keys ls) ≡ true
key-listed ls i l = ap (λ k. has k (keys ls)) (sym (get_or-map (λ s. s.0) ls i (0, 0) 0 l))
    ∙ has-at (keys ls) i (omega (arith, l, length-map ls (λ s. s.0)))

pub fresh-row : {E : Type 0} (A : List (List ℕ)) (row h : ℕ) (left : List (ℕ × ℕ)) (old : ByCell Block)
    (parts : List (Option Block)) (r : Result (ByCell Block) E)
    → length parts ≡ length left
    → ((i : ℕ) → i < length left → IsPart (get_or parts i None) h (get_or left i (0, 0)).1
    (window row h (width (take i left)) (get_or left i (0, 0)).1 A))
    → IfOk r (λ l. (q : ℕ) → entry l q ≡ entry_after (keys left) parts (entry old q) q)
    → IfOk r (λ l. IsFreshRow A row h left old l)
fresh-row A row h left old parts (Ok l) n are entries =
    record { parts = parts; count = n; are = are; entries = entries }
fresh-row A row h left old parts (Err e) n are entries = entries
