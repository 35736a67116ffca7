-- A block of one entry put at one pair of cells.
use Rattle.std.proofs.Common.{◌≡◌, ◌≢◌, ℕ, zero, suc, ◌<◌, ◌+◌, Bool, true, false, cond, ◌&&◌, ◌||◌, refl, sym, ap, ap₂}
use Rattle.std.proofs.Common.{◌∙◌, subst, arith, ◌⊎◌, inl, inr, List, [], ◌∷◌, length, get_or, Option, Some, None, eqb}
use Rattle.std.specs.Option.{unwrap_or}
use Rattle.std.proofs.lemmas.Bool.{eq-eqb, ne_eqb, cases_eq}
use Rattle.dense_blocks.specs.declared.block.Block.{Block}
use Rattle.block_rows.specs.BlockRows.{scalar_block}
use Rattle.rising_lists.specs.Rising.{ByCell, has, keys, entry, entry_of, line_of, entry_after}
use Rattle.open_columns.specs.declared.mark.Mark.{Mark}
use Rattle.block_complexes.specs.BlockComplexes.{cells, size_of, degree_of}
use Rattle.block_sparse.specs.StoredBlocks.{is_zero}
use Rattle.block_sparse.specs.Grids.{part, IsPart, AreSized}
use Rattle.block_sparse.specs.Fresh.{mark_of}
use Rattle.block_sparse.proofs.GridLaws.{IsDone, part-whole}

abbrev entry_after_test : Bool → Option Mark → Option Mark → Option Mark
entry_after_test b fresh had = unwrap_or (cond b (Some fresh) None) had

-- a column in which one cell has got a mark
pub column-put : (s t : ℕ) (columns columns' : ByCell (ByCell Mark)) (old column : ByCell Mark) (mark : Mark)
    → has s columns.cells ≡ true
    → ((k : ℕ) → line_of columns' k ≡ cond (eqb k s && has s columns.cells) column (line_of columns k))
    → old ≡ line_of columns s
    → ((q : ℕ) → entry column q ≡ entry_after (t ∷ []) (Some mark ∷ []) (entry old q) q)
    → (k p : ℕ) → entry_of columns' k p ≡ cond (eqb k s && eqb p t) (Some mark) (entry_of columns k p)
column-put s t columns columns' old column mark inside put same is k p = go (cases_eq k s) (cases_eq p t)
  where
    there : k ≡ s → entry_of columns' k p ≡ entry column p
    there e = ap (λ l. entry l p) (put k ∙ ap₂ (λ a b. cond (a && b) column (line_of columns k)) (eq-eqb k s e) inside)

    go : (k ≡ s) ⊎ (k ≡ s → ⊥) → (p ≡ t) ⊎ (p ≡ t → ⊥)
        → entry_of columns' k p ≡ cond (eqb k s && eqb p t) (Some mark) (entry_of columns k p)
    go (inl e) (inl f) =
        there e ∙ is p ∙ ap (λ b. entry_after_test b (Some mark) (entry old p)) (eq-eqb t p (sym f))
        ∙ sym (ap₂ (λ a b. cond (a && b) (Some mark) (entry_of columns k p)) (eq-eqb k s e) (eq-eqb p t f))
    go (inl e) (inr f) =
        there e ∙ is p ∙ ap (λ b. entry_after_test b (Some mark) (entry old p)) (ne_eqb t p (λ g. f (sym g)))
        ∙ ap (λ l. entry l p) (same ∙ ap (line_of columns) (sym e))
        ∙ sym (ap₂ (λ a b. cond (a && b) (Some mark) (entry_of columns k p)) (eq-eqb k s e) (ne_eqb p t f))
    go (inr n) f =
        ap (λ l. entry l p) (put k ∙ ap (λ a. cond (a && has s columns.cells) column (line_of columns k))
        (ne_eqb k s n))
        ∙ sym (ap (λ a. cond (a && eqb p t) (Some mark) (entry_of columns k p)) (ne_eqb k s n))

-- elsewhere than at one pair of cells
elsewhere : {T : Type 0} (s t p q : ℕ) (x y : T) → ((eqb s p || false) && (eqb t q || false)) ≡ false
    → cond (eqb p s && eqb q t) x y ≡ y
elsewhere s t p q x y n = go (cases_eq p s) (cases_eq q t)
  where
    go : (p ≡ s) ⊎ (p ≡ s → ⊥) → (q ≡ t) ⊎ (q ≡ t → ⊥) → cond (eqb p s && eqb q t) x y ≡ y
    go (inl e) (inl f) = absurd (let here : true ≡ false = sym (ap₂ (λ a b. (a || false) && (b || false))
        (eq-eqb s p (sym e)) (eq-eqb t q (sym f))) ∙ n in cc)
    go (inl e) (inr f) = ap₂ (λ a b. cond (a && b) x y) (eq-eqb p s e) (ne_eqb q t f)
    go (inr e) f = ap (λ a. cond (a && eqb q t) x y) (ne_eqb p s e)

exchanged : (a b : Bool) → (a && b) ≡ false → (b && a) ≡ false
exchanged true true n = n
exchanged true false n = refl
exchanged false true n = refl
exchanged false false n = refl

abbrev open_mark : Mark
open_mark = record { flagged = false; square = true }

-- rows and columns after a block of one entry has come in
module _ (s t e : ℕ) (rows rows' : ByCell (ByCell Block)) (columns columns' : ByCell (ByCell Mark)) (not_zero : e ≢ 0)
    (put_rows : (k p : ℕ) → entry_of rows' k p
    ≡ cond (eqb k t && eqb p s) (Some (scalar_block e)) (entry_of rows k p))
    (put_columns : (k p : ℕ) → entry_of columns' k p
    ≡ cond (eqb k s && eqb p t) (Some (record { flagged = false; square = true })) (entry_of columns k p)) where
  abbrev matrix : List (List ℕ)
  matrix = (e ∷ []) ∷ []

  abbrev left : List (ℕ × ℕ)
  left = (s, 1) ∷ []

  abbrev below : List (ℕ × ℕ)
  below = (t, 1) ∷ []

  whole : part left below matrix s t ≡ matrix
  whole = part-whole s t 1 1 matrix (refl, tt)

  nonzero : is_zero matrix ≡ false
  nonzero = ap (λ z. (z && true) && true) (ne_eqb e 0 not_zero)

  row_in : (i j : ℕ) → i < length left → j < length below
      → IsPart (entry_of rows' (get_or (keys below) j 0) (get_or (keys left) i 0))
      (get_or below j (0, 0)).1 (get_or left i (0, 0)).1
      (part left below matrix (get_or (keys left) i 0) (get_or (keys below) j 0))
  row_in (suc i) j li lj = absurd (omega arith)
  row_in zero (suc j) li lj = absurd (omega arith)
  row_in zero zero li lj =
      let here : entry_of rows' t s ≡ Some (scalar_block e) =
      put_rows t s ∙ ap₂ (λ a b. cond (a && b) (Some (scalar_block e)) (entry_of rows t s)) (eq-eqb t t refl)
      (eq-eqb s s refl) in
      subst (IsPart (entry_of rows' t s) 1 1) (sym whole)
      (subst (λ p. IsPart p 1 1 matrix) (sym here)
      (record { rows_are = refl; columns_are = refl; matrix_is = refl }, nonzero))

  column_in : (i j : ℕ) → i < length left → j < length below
      → entry_of columns' (get_or (keys left) i 0) (get_or (keys below) j 0)
      ≡ mark_of (get_or below j (0, 0)).1 (get_or left i (0, 0)).1
      (part left below matrix (get_or (keys left) i 0) (get_or (keys below) j 0))
  column_in (suc i) j li lj = absurd (omega arith)
  column_in zero (suc j) li lj = absurd (omega arith)
  column_in zero zero li lj =
      put_columns s t
      ∙ ap₂ (λ a b. cond (a && b) (Some open_mark) (entry_of columns s t)) (eq-eqb s s refl) (eq-eqb t t refl)
      ∙ sym (ap (mark_of 1 1) whole ∙ ap (λ z. cond z None (Some open_mark)) nonzero)

  pub entry-done : IsDone ((e ∷ []) ∷ []) ((s, 1) ∷ []) ((t, 1) ∷ []) rows rows' columns columns'
  entry-done = record {
    row_in = row_in;
    row_out = λ p q n. put_rows q p
        ∙ elsewhere t s q p (Some (scalar_block e)) (entry_of rows q p) (exchanged (eqb s p || false)
        (eqb t q || false) n);
    column_in = column_in;
    column_out = λ p q n. put_columns p q ∙ elsewhere s t p q (Some open_mark) (entry_of columns p q) n;
  }

-- one listed cell
pub sized-one : (live : List (ℕ × ℕ × ℕ)) (s m : ℕ) → has s (cells live) ≡ true → size_of live s ≡ m
    → AreSized live ((s, m) ∷ [])
sized-one live s m here size zero d l = (here, size)
sized-one live s m here size (suc i) d l = absurd (omega arith)

pub degrees-one : (live : List (ℕ × ℕ × ℕ)) (s t : ℕ) → degree_of live t ≡ degree_of live s + 1 → (p q : ℕ)
    → (eqb s p || false) ≡ true → (eqb t q || false) ≡ true → degree_of live q ≡ degree_of live p + 1
degrees-one live s t consecutive p q from to =
    ap (degree_of live) (sym (same t q to)) ∙ consecutive ∙ ap (λ k. degree_of live k + 1) (same s p from)
  where
    same : (k l : ℕ) → (eqb k l || false) ≡ true → k ≡ l
    same k l h = elim (cases_eq k l) [
      | inl e ↦ e
      | inr n ↦ absurd (let no : false ≡ true = sym (ap (λ b. b || false) (ne_eqb k l n)) ∙ h in cc)
    ]
