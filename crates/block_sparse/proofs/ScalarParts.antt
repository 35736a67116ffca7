-- The parts of a row of a matrix at cells of size 1.
use Rattle.std.proofs.Common.{◌≡◌, ℕ, zero, suc, ◌<◌, ◌≤◌, Bool, true, false, ◌&&◌, cond, refl, sym, ap, ap₂, ◌∙◌}
use Rattle.std.proofs.Common.{subst, arith, List, [], ◌∷◌, length, map, take, drop, get_or, Option, None, Some, All}
use Rattle.std.proofs.Common.{eqb, ◌+◌, ◌*◌}
use Rattle.std.proofs.Common.{drop-cons, inl, inr}
use Rattle.std.proofs.lemmas.Bool.{cases_eq, eq-eqb, ne_eqb}
use Rattle.std.proofs.lemmas.List.{get_or-take, get_or-drop, get_or-map, length-map, length-drop, length-take-le}
use Rattle.std.proofs.lemmas.Nat.{row_fits}
use Rattle.std.specs.Option.{option_map}
use Rattle.dense_blocks.specs.declared.block.Block.{Block}
use Rattle.dense_blocks.specs.Blocks.{matrix_of}
use Rattle.dense_blocks.proofs.BlockLaws.{block-size}
use Rattle.dense_blocks.proofs.Cutting.{cut-row}
use Rattle.open_columns.specs.declared.mark.Mark.{Mark}
use Rattle.rising_lists.specs.Rising.{nonzero_entry, value_if, strided}
use Rattle.rising_lists.proofs.MergeLaws.{value-fresh, strided-count, strided-at}
use Rattle.block_rows.specs.BlockRows.{scalar_block}
use Rattle.block_sparse.specs.StoredBlocks.{is_zero}
use Rattle.block_sparse.specs.Fresh.{mark_of}
use Rattle.block_sparse.specs.Grids.{width, window, IsPart}

pub scalar-width : (left : List (ℕ × ℕ)) → All (λ l. l.1 ≡ 1) left → (i : ℕ) → i ≤ length left
    → width (take i left) ≡ i
scalar-width left h zero l = refl
scalar-width [] h (suc i) l = absurd (omega arith)
scalar-width (x ∷ xs) h (suc i) l =
    omega (arith, h 0 (0, 0) (omega arith), scalar-width xs (λ j d m. h (suc j) d (omega arith)) i (omega arith))

pub scalar-window : (A : List (List ℕ)) (row i : ℕ) → row < length A → i < length (get_or A row [])
    → window row 1 i 1 A ≡ (get_or (get_or A row []) i 0 ∷ []) ∷ []
scalar-window A row i l m =
    ap (λ rows. map (λ r. take 1 (drop i r)) (take 1 rows)) (drop-cons A row [] l)
    ∙ ap (λ r. take 1 r ∷ []) (drop-cons (get_or A row []) i 0 m)

-- a part of one entry is zero where that is 0
pub scalar-zero : (A : List (List ℕ)) (row col h w : ℕ) → h ≡ 1 → w ≡ 1 → row < length A
    → col < length (get_or A row []) → is_zero (window row h col w A) ≡ eqb (get_or (get_or A row []) col 0) 0
scalar-zero A row col h w one_row one_col l m =
    ap is_zero (ap₂ (λ m n. window row m col n A) one_row one_col ∙ scalar-window A row col l m)
    ∙ go (eqb (get_or (get_or A row []) col 0) 0)
  where
    go : (b : Bool) → ((b && true) && true) ≡ b
    go true = refl
    go false = refl

-- a part of one entry is that entry
pub scalar-same : (A : List (List ℕ)) (row col h w r e : ℕ) → r ≡ get_or (get_or A row []) col 0 → h ≡ 1 → w ≡ 1
    → row < length A → col < length (get_or A row [])
    → (eqb r e ≡ true → window row h col w A ≡ (e ∷ []) ∷ []) × (window row h col w A ≡ (e ∷ []) ∷ [] → eqb r e ≡ true)
scalar-same A row col h w r e is one_row one_col l m =
    let part : window row h col w A ≡ (r ∷ []) ∷ [] =
    ap₂ (λ m n. window row m col n A) one_row one_col ∙ scalar-window A row col l m
    ∙ ap (λ x. (x ∷ []) ∷ []) (sym is) in (
      λ t. part ∙ ap (λ x. (x ∷ []) ∷ []) (elim (cases_eq r e) [
        | inl same ↦ same
        | inr other ↦ absurd (let f : false ≡ true = sym (ne_eqb r e other) ∙ t in cc)
      ]),
      λ s. eq-eqb r e (ap (λ M. get_or (get_or M 0 []) 0 0) (sym part ∙ s)),
    )

scalar-part : (e : ℕ) → IsPart (option_map scalar_block (nonzero_entry e)) 1 1 ((e ∷ []) ∷ [])
scalar-part e = go (eqb e 0) refl
  where
    go : (b : Bool) → eqb e 0 ≡ b → IsPart (option_map scalar_block (cond b None (Some e))) 1 1 ((e ∷ []) ∷ [])
    go true h = ap (λ z. (z && true) && true) h
    go false h = (
      record { rows_are = refl; columns_are = refl; matrix_is = refl },
      ap (λ z. (z && true) && true) h,
    )

-- no more cells of size 1 than coordinates
pub scalar-count : (left : List (ℕ × ℕ)) → All (λ l. l.1 ≡ 1) left → length left ≤ width left
scalar-count [] h = omega arith
scalar-count (x ∷ xs) h =
    omega (arith, h 0 (0, 0) (omega arith), scalar-count xs (λ j d m. h (suc j) d (omega arith)))

-- the entries of a row of a matrix at some cells of size 1; none for each that is 0
abbrev pub scalar_entries : List (List ℕ) → ℕ → List (ℕ × ℕ) → List (Option ℕ)
scalar_entries A row left = map nonzero_entry (take (length left) (get_or A row []))

-- the blocks that some entries make
abbrev pub scalar_blocks : List (Option ℕ) → List (Option Block)
scalar_blocks entries = map (option_map scalar_block) entries

module _ (A : List (List ℕ)) (row : ℕ) (left : List (ℕ × ℕ)) (scalar : All (λ l. l.1 ≡ 1) left)
    (inside : row < length A) (long : length left ≤ length (get_or A row [])) where
  pub entries-count : length (scalar_entries A row left) ≡ length left
  entries-count = length-map (take (length left) (get_or A row [])) nonzero_entry
      ∙ length-take-le (length left) (get_or A row []) long

  pub parts-count : length (scalar_blocks (scalar_entries A row left)) ≡ length left
  parts-count = length-map (scalar_entries A row left) (option_map scalar_block) ∙ entries-count

  part-at : (i : ℕ) → i < length left
      → get_or (scalar_blocks (scalar_entries A row left)) i None
      ≡ option_map scalar_block (nonzero_entry (get_or (get_or A row []) i 0))
  part-at i l =
      get_or-map (option_map scalar_block) (scalar_entries A row left) i None None (omega (arith, l, entries-count))
      ∙ ap (option_map scalar_block)
      (get_or-map nonzero_entry (take (length left) (get_or A row [])) i 0 None
      (omega (arith, l, length-take-le (length left) (get_or A row []) long))
      ∙ ap nonzero_entry (get_or-take (length left) (get_or A row []) i 0 l))

  pub scalar-parts : (i : ℕ) → i < length left
      → IsPart (get_or (scalar_blocks (scalar_entries A row left)) i None) 1 (get_or left i (0, 0)).1
      (window row 1 (width (take i left)) (get_or left i (0, 0)).1 A)
  scalar-parts i l =
      let size : (get_or left i (0, 0)).1 ≡ 1 = scalar i (0, 0) l in
      let at : width (take i left) ≡ i = scalar-width left scalar i (omega arith) in
      let part : Option Block = get_or (scalar_blocks (scalar_entries A row left)) i None in
      subst (λ n. IsPart part 1 n (window row 1 (width (take i left)) n A)) (sym size)
      (subst (λ n. IsPart part 1 1 (window row 1 n 1 A)) (sym at)
      (subst (λ p. IsPart p 1 1 (window row 1 i 1 A)) (sym (part-at i l))
      (subst (IsPart (option_map scalar_block (nonzero_entry (get_or (get_or A row []) i 0))) 1 1)
      (sym (scalar-window A row i inside (omega (arith, l, long)))) (scalar-part (get_or (get_or A row []) i 0)))))

-- what a column notes of a block without a flag that has one entry
abbrev pub scalar_mark : Mark
scalar_mark = record { flagged = false; square = true }

-- what a column notes of the entries of a column of a matrix
abbrev pub scalar_marks : Block → ℕ → List (ℕ × ℕ) → List (Option Mark)
scalar_marks b col below = map (value_if scalar_mark) (strided b.entries col b.cols (length below))

module _ (b : Block) (col : ℕ) (below : List (ℕ × ℕ)) (scalar : All (λ l. l.1 ≡ 1) below)
    (tall : length below ≤ b.rows) (inside : col + 1 ≤ b.cols) where
  pub marks-count : length (scalar_marks b col below) ≡ length below
  marks-count = length-map (strided b.entries col b.cols (length below)) (value_if scalar_mark)
      ∙ strided-count b.entries col b.cols (length below)

  pub marks-are : (j : ℕ) → j < length below → get_or (scalar_marks b col below) j None
      ≡ mark_of (get_or below j (0, 0)).1 1
      (window (width (take j below)) (get_or below j (0, 0)).1 col 1 (matrix_of b))
  marks-are j l =
      let size : (get_or below j (0, 0)).1 ≡ 1 = scalar j (0, 0) l in
      let at : width (take j below) ≡ j = scalar-width below scalar j (omega arith) in
      let row_is : get_or (matrix_of b) j [] ≡ take b.cols (drop (j * b.cols) b.entries) =
      cut-row b.rows b.cols b.entries j (omega (arith, l, tall)) in
      let entry_is : get_or (get_or (matrix_of b) j []) col 0 ≡ get_or b.entries (col + j * b.cols) 0 =
      ap (λ r. get_or r col 0) row_is
      ∙ get_or-take b.cols (drop (j * b.cols) b.entries) col 0 (omega (arith, inside))
      ∙ get_or-drop (j * b.cols) b.entries col 0
      ∙ (let e : j * b.cols + col ≡ col + j * b.cols = omega arith in ap (λ k. get_or b.entries k 0) e) in
      let high : j < length (matrix_of b) = omega (arith, l, tall, block-size b) in
      let room : j * b.cols + b.cols ≤ b.rows * b.cols =
      row_fits j b.cols b.rows b.cols (omega (arith, l, tall)) (omega arith) in
      let left : b.cols ≤ length (drop (j * b.cols) b.entries) =
      omega (arith, length-drop (j * b.cols) b.entries, b.full, room) in
      let wide : col < length (get_or (matrix_of b) j []) =
      omega (arith, inside, ap length row_is, length-take-le b.cols (drop (j * b.cols) b.entries) left) in
      value-fresh (value_if scalar_mark) (strided b.entries col b.cols (length below)) j _ (omega (
        arith,
        l,
        strided-count b.entries col b.cols (length below),
      )) (ap (value_if scalar_mark) (strided-at b.entries col b.cols (length below) j l ∙ sym entry_is))
      ∙ ap (λ z. cond z None (Some scalar_mark)) (sym (scalar-zero (matrix_of b) j col 1 1 refl refl high wide))
      ∙ ap₂ (λ n h. mark_of h 1 (window n h col 1 (matrix_of b))) (sym at) (sym size)
