-- Cells of size 1, and the entries of a row of a matrix at them.
use Rattle.std.proofs.Common.{◌≡◌, ℕ, zero, suc, ◌<◌, ◌≤◌, true, false, cond, ◌||◌, List, [], ◌∷◌, length, get_or, take}
use Rattle.std.proofs.Common.{Option, Some, None, All, eqb, refl, sym, ap, ap₂, ◌∙◌, subst, arith, ◌⊎◌, inl, inr}
use Rattle.std.specs.Option.{option_map, unwrap_or}
use Rattle.std.proofs.lemmas.Bool.{cases_eq, eq-eqb, ne_eqb}
use Rattle.std.proofs.lemmas.List.Elements.{All-head, All-tail}
use Rattle.rising_lists.specs.Rising.{ByCell, has, entry}
use Rattle.block_complexes.specs.BlockComplexes.{cells, size_of}
use Rattle.block_rows.specs.BlockRows.{scalar_block}
use Rattle.block_sparse.specs.Grids.{width, window, AreSized}
use Rattle.block_sparse.proofs.ScalarParts.{scalar-width, scalar-window}
use Rattle.block_grids.specs.Joined.{grid_block, IsSameScalar, IsSameEntry}

live-size : (live : List (ℕ × ℕ × ℕ)) (c : ℕ) → All (λ l. 1 ≤ l.2) live → has c (cells live) ≡ true
    → 1 ≤ size_of live c
live-size [] c h m = absurd (let e : false ≡ true = m in cc)
live-size (x ∷ xs) c h m = go (cases_eq x.0 c) (live-size xs c (All-tail (λ l. 1 ≤ l.2) x xs h))
  where
    go : (x.0 ≡ c) ⊎ (x.0 ≡ c → ⊥) → (has c (cells xs) ≡ true → 1 ≤ size_of xs c)
        → 1 ≤ cond (eqb x.0 c) x.2 (size_of xs c)
    go (inl e) f = subst (λ b. 1 ≤ cond b x.2 (size_of xs c)) (sym (eq-eqb x.0 c e)) (All-head (λ l. 1 ≤ l.2) x xs h)
    go (inr n) f = subst (λ b. 1 ≤ cond b x.2 (size_of xs c)) (sym (ne_eqb x.0 c n))
        (f (ap (λ b. b || has c (cells xs)) (sym (ne_eqb x.0 c n)) ∙ m))

-- listed live cells have sizes
pub listed-sizes : (live : List (ℕ × ℕ × ℕ)) (left : List (ℕ × ℕ)) → All (λ l. 1 ≤ l.2) live → AreSized live left
    → All (λ l. 1 ≤ l.1) left
listed-sizes live left h s = λ i d l. subst (λ n. 1 ≤ n) (s i d l).1 (live-size live (get_or left i d).0 h (s i d l).0)

least-width : (left : List (ℕ × ℕ)) → All (λ l. 1 ≤ l.1) left → length left ≤ width left
least-width [] h = omega arith
least-width (x ∷ xs) h =
    omega (arith, All-head (λ l. 1 ≤ l.1) x xs h, least-width xs (All-tail (λ l. 1 ≤ l.1) x xs h))

-- cells that have no more coordinates than they are have size 1
pub all-single : (left : List (ℕ × ℕ)) → All (λ l. 1 ≤ l.1) left → width left ≤ length left → All (λ l. l.1 ≡ 1) left
all-single [] h m = λ i d l. absurd (omega arith)
all-single (x ∷ xs) h m = go (all-single xs tail (omega (arith, head, m)))
  where
    head : 1 ≤ x.1
    head = All-head (λ l. 1 ≤ l.1) x xs h

    tail : All (λ l. 1 ≤ l.1) xs
    tail = All-tail (λ l. 1 ≤ l.1) x xs h

    go : All (λ l. l.1 ≡ 1) xs → (i : ℕ) (d : ℕ × ℕ) → i < length (x ∷ xs) → (get_or (x ∷ xs) i d).1 ≡ 1
    go f zero d l = omega (arith, head, least-width xs tail, m)
    go f (suc i) d l = f i d (omega arith)

single-block : (o : Option ℕ) → grid_block (option_map scalar_block o) 1 1 ≡ (unwrap_or o 0 ∷ []) ∷ []
single-block None = refl
single-block (Some e) = refl

-- the part of one row of a matrix at the i-th of cells of size 1
module _ (line : ByCell ℕ) (left : List (ℕ × ℕ)) (A : List (List ℕ)) (row h i : ℕ)
    (single : All (λ l. l.1 ≡ 1) left) (one : h ≡ 1) (inside : i < length left) (rows : row < length A)
    (cols : i < length (get_or A row [])) where
  size : (get_or left i (0, 0)).1 ≡ 1
  size = single i (0, 0) inside

  part-is : window row h (width (take i left)) (get_or left i (0, 0)).1 A ≡ (get_or (get_or A row []) i 0 ∷ []) ∷ []
  part-is =
      ap (λ m. window row m (width (take i left)) (get_or left i (0, 0)).1 A) one
      ∙ ap₂ (λ n w. window row 1 n w A) (scalar-width left single i (omega arith)) size
      ∙ scalar-window A row i rows cols

  block-is : grid_block (option_map scalar_block (entry line (get_or left i (0, 0)).0)) h (get_or left i (0, 0)).1
      ≡ (unwrap_or (entry line (get_or left i (0, 0)).0) 0 ∷ []) ∷ []
  block-is =
      ap₂ (λ m w. grid_block (option_map scalar_block (entry line (get_or left i (0, 0)).0)) m w) one size
      ∙ single-block (entry line (get_or left i (0, 0)).0)

  pub same-single : (IsSameEntry line left (get_or A row []) i → IsSameScalar line left A row h i)
      × (IsSameScalar line left A row h i → IsSameEntry line left (get_or A row []) i)
  same-single = (
    λ e. part-is ∙ ap (λ v. (v ∷ []) ∷ []) e ∙ sym block-is,
    λ e. ap (λ M. get_or (get_or M 0 []) 0 0) (sym part-is ∙ e ∙ block-is),
  )
