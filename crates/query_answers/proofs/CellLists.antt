-- Vectors and rows by cells that come one after another: values, images, and images as sums over the cells.
use Rattle.std.proofs.Common.{◌≡◌, ◌≢◌, ℕ, zero, suc, ◌<◌, ◌+◌, Bool, true, false, cond, ◌||◌, eqb, List, [], ◌∷◌}
use Rattle.std.proofs.Common.{length, map, filter, take, drop, get_or, All, refl, sym, ap, ap₂, ◌∙◌, subst, arith}
use Rattle.std.proofs.Common.{length-drop}
use Rattle.std.proofs.lemmas.Bool.{eq-eqb, ne_eqb}
use Rattle.std.proofs.lemmas.List.{take-map, drop-map, length-map, get_or-map}
use Rattle.std.proofs.lemmas.List.Elements.{All-filter, All-from_get_or, All-map}
use Rattle.dense_blocks.specs.Field.{Ops}
use Rattle.dense_blocks.specs.FieldLaws.{IsField}
use Rattle.dense_blocks.specs.Vectors.{zeros, plus, dot}
use Rattle.dense_blocks.specs.Matrices.{image_of}
use Rattle.dense_blocks.proofs.ScalarLaws.{zero_below}
use Rattle.dense_blocks.proofs.VectorLaws.{dot-nil, dot-below}
use Rattle.cochain_vec.specs.declared.cell.Cell.{Cell}
use Rattle.cochain_vec.specs.Complexes.{total_size, value_at}
use Rattle.cochain_vec.proofs.PathLaws.{sum_over}
use Rattle.rising_lists.specs.Rising.{IsRising, has, keys}
use Rattle.rising_lists.proofs.Keyed.{rising_tail, rising_head, rising_cons, head-absent, has-at}
use Rattle.block_complexes.specs.BlockComplexes.{cells, size_of}
use Rattle.block_complexes.specs.Cochains.{cell_of, of_degree}
use Rattle.block_complexes.proofs.LiveLaws.{cell-at, length-cells}
use Rattle.block_complexes.proofs.ComplexLaws.{of_degree-are}
use Rattle.block_complexes.proofs.Sums.{sum_over-equal}
use Rattle.block_sparse.specs.Grids.{width, segment, columns_of, AreSized}
use Rattle.query_answers.specs.Degrees.{sized_of_degree}

-- ---- cells with their sizes

abbrev sized_cell : Cell → ℕ × ℕ
sized_cell c = (c.cell, c.size)

abbrev pub sized_cells : List Cell → List (ℕ × ℕ)
sized_cells cs = map sized_cell cs

pub width-sized : (cs : List Cell) → width (sized_cells cs) ≡ total_size cs
width-sized [] = refl
width-sized (c ∷ cs) = ap (λ n. c.size + n) (width-sized cs)

pub value-segment : (cs : List Cell) (z : List ℕ) (s : ℕ) → value_at cs z s ≡ segment (sized_cells cs) z s
value-segment [] z s = refl
value-segment (c ∷ cs) z s = ap (λ y. cond (eqb c.cell s) (take c.size z) y) (value-segment cs (drop c.size z) s)

-- a cell that is not listed has no value
pub value-none : (cs : List Cell) (z : List ℕ) (s : ℕ) → has s (keys (sized_cells cs)) ≡ false → value_at cs z s ≡ []
value-none [] z s h = refl
value-none (c ∷ cs) z s h = go (eqb c.cell s) h (value-none cs (drop c.size z) s)
  where
    go : (b : Bool) → (b || has s (keys (sized_cells cs))) ≡ false
        → (has s (keys (sized_cells cs)) ≡ false → value_at cs (drop c.size z) s ≡ [])
        → cond b (take c.size z) (value_at cs (drop c.size z) s) ≡ []
    go true m r = cc
    go false m r = r m

pub cell-listed : (cs : List Cell) → All (λ (c : Cell). has c.cell (keys (sized_cells cs)) ≡ true) cs
cell-listed cs i d l =
    let ls = sized_cells cs in
    let inside : i < length ls = omega (arith, l, length-map cs sized_cell) in
    subst (λ c. has c (keys ls) ≡ true)
    (get_or-map (λ s. s.0) ls i (0, 0) 0 inside
    ∙ ap (λ (s : ℕ × ℕ). s.0) (get_or-map sized_cell cs i d (0, 0) l))
    (has-at (keys ls) i (omega (arith, inside, length-map ls (λ s. s.0))))

-- ---- the live cells of one degree, by both lists

abbrev with_size : ℕ × ℕ × ℕ → ℕ × ℕ
with_size l = (l.0, l.2)

abbrev of_that_degree : ℕ → List (ℕ × ℕ × ℕ) → List (ℕ × ℕ × ℕ)
of_that_degree k live = filter (λ l. eqb l.1 k) live

pub sized-same : (k : ℕ) (live : List (ℕ × ℕ × ℕ)) → sized_of_degree k live ≡ sized_cells (of_degree k live)
sized-same k [] = refl
sized-same k (l ∷ ls) = go (eqb l.1 k) (sized-same k ls)
  where
    go : (b : Bool) → sized_of_degree k ls ≡ sized_cells (of_degree k ls)
        → map with_size (cond b (l ∷ of_that_degree k ls) (of_that_degree k ls))
        ≡ sized_cells (cond b (cell_of l ∷ of_degree k ls) (of_degree k ls))
    go true e = ap (λ xs. with_size l ∷ xs) e
    go false e = e

keys-cells : (xs : List (ℕ × ℕ × ℕ)) → keys (map with_size xs) ≡ cells xs
keys-cells [] = refl
keys-cells (x ∷ xs) = ap (λ ks. x.0 ∷ ks) (keys-cells xs)

filter-rises : (p : ℕ × ℕ × ℕ → Bool) (live : List (ℕ × ℕ × ℕ)) → IsRising (cells live)
    → IsRising (cells (filter p live))
filter-rises p [] r = r
filter-rises p (x ∷ xs) r =
    elim (p x) as (λ b. IsRising (cells (cond b (x ∷ filter p xs) (filter p xs)))) [
      | true ↦ rising_cons x.0 (cells (filter p xs)) later (filter-rises p xs (rising_tail x.0 (cells xs) r))
      | false ↦ filter-rises p xs (rising_tail x.0 (cells xs) r)
    ]
  where
    IsAbove : ℕ × ℕ × ℕ → Type 0
    IsAbove m = x.0 < m.0

    above : All IsAbove xs
    above = All-from_get_or IsAbove xs (0, 0, 0)
        (λ i inside. omega (
          arith,
          rising_head x.0 (cells xs) r i (omega (arith, length-cells xs)),
          cell-at xs i inside,
        ))

    later : (i : ℕ) → i < length (cells (filter p xs)) → x.0 < get_or (cells (filter p xs)) i 0
    later i m =
        let inside : i < length (filter p xs) = omega (arith, m, length-cells (filter p xs)) in
        let less : x.0 < (get_or (filter p xs) i (0, 0, 0)).0 = All-filter p IsAbove xs above i (0, 0, 0) inside in
        omega (arith, less, cell-at (filter p xs) i inside)

module _ (live : List (ℕ × ℕ × ℕ)) (rises : IsRising (cells live)) (k : ℕ) where
  pub degree-rises : IsRising (keys (sized_of_degree k live))
  degree-rises = subst IsRising (sym (keys-cells (of_that_degree k live))) (filter-rises (λ l. eqb l.1 k) live rises)

  pub cells-rise : IsRising (keys (sized_cells (of_degree k live)))
  cells-rise = subst (λ ls. IsRising (keys ls)) (sized-same k live) degree-rises

  pub cells-sized : AreSized live (sized_cells (of_degree k live))
  cells-sized =
      All-map (λ (l : ℕ × ℕ). (has l.0 (cells live) ≡ true) × (size_of live l.0 ≡ l.1))
      sized_cell (of_degree k live)
      (λ i d l. let is = of_degree-are live rises k i d l in (is.is_live, is.size))

  pub degree-sized : AreSized live (sized_of_degree k live)
  degree-sized = subst (AreSized live) (sym (sized-same k live)) cells-sized

-- ---- images

-- the value of an image at a cell is what the rows there make
pub value-image : (K : Ops) (cs : List Cell) (A : List (List ℕ)) (z : List ℕ) (c : ℕ)
    → value_at cs (image_of K A z) c ≡ image_of K (segment (sized_cells cs) A c) z
value-image K [] A z c = refl
value-image K (t ∷ ts) A z c = go (eqb t.cell c) (value-image K ts (drop t.size A) z c)
  where
    go : (b : Bool)
        → value_at ts (image_of K (drop t.size A) z) c ≡ image_of K (segment (sized_cells ts) (drop t.size A) c) z
        → cond b (take t.size (image_of K A z)) (value_at ts (drop t.size (image_of K A z)) c)
        ≡ image_of K (cond b (take t.size A) (segment (sized_cells ts) (drop t.size A) c)) z
    go true e = take-map (λ r. dot K r z) t.size A
    go false e = ap (λ y. value_at ts y c) (drop-map (λ r. dot K r z) t.size A) ∙ e

columns-later : (ls : List (ℕ × ℕ)) (m c : ℕ) (R : List (List ℕ)) → columns_of ls (map (drop m) R) c
    ≡ map (λ row. segment ls (drop m row) c) R
columns-later ls m c [] = refl
columns-later ls m c (r ∷ R) = ap (λ A. segment ls (drop m r) c ∷ A) (columns-later ls m c R)

module _ (K : Ops) (F : IsField K) where
  -- a product of rows, cut in two
  dot-cut : (m : ℕ) (u v : List ℕ)
      → dot K u v ≡ K.add (dot K (take m u) (take m v)) (dot K (drop m u) (drop m v))
  dot-cut zero u v = sym (F.add_comm 0 (dot K u v) ∙ F.add_zero (dot K u v) (dot-below K F u v))
  dot-cut (suc m) [] v = sym (F.add_zero 0 (zero_below K F))
  dot-cut (suc m) (a ∷ u) [] = sym (ap (K.add 0) (dot-nil K (drop m u)) ∙ F.add_zero 0 (zero_below K F))
  dot-cut (suc m) (a ∷ u) (b ∷ v) =
      ap (K.add (K.mul a b)) (dot-cut m u v)
      ∙ sym (F.add_assoc (K.mul a b) (dot K (take m u) (take m v)) (dot K (drop m u) (drop m v)))

  image-cut : (m : ℕ) (R : List (List ℕ)) (z : List ℕ) → image_of K R z
      ≡ plus K (image_of K (map (take m) R) (take m z)) (image_of K (map (drop m) R) (drop m z))
  image-cut m [] z = refl
  image-cut m (r ∷ R) z = ap₂ ◌∷◌ (dot-cut m r z) (image-cut m R z)

  pub image-nil : (n : ℕ) (R : List (List ℕ)) → length R ≡ n → image_of K R [] ≡ zeros n
  image-nil zero [] e = refl
  image-nil zero (r ∷ R) e = absurd (omega arith)
  image-nil (suc n) [] e = absurd (omega arith)
  image-nil (suc n) (r ∷ R) e = ap₂ ◌∷◌ (dot-nil K r) (image-nil n R (omega arith))

  -- the image of a vector is the sum over the cells of what their columns make of its values there
  pub image-by-cells : (ls : List (ℕ × ℕ)) → IsRising (keys ls) → (n : ℕ) (R : List (List ℕ)) (z : List ℕ)
      → length R ≡ n → length z ≡ width ls
      → image_of K R z ≡ sum_over K n (λ s. image_of K (columns_of ls R s) (segment ls z s)) (keys ls)
  image-by-cells [] r n R [] e h = image-nil n R e
  image-by-cells [] r n R (a ∷ z) e h = absurd (omega arith)
  image-by-cells (l ∷ ls) r n R z e h =
      image-cut l.1 R z
      ∙ ap₂ (plus K) (sym first)
      (image-by-cells ls (rising_tail l.0 (keys ls) r) n (map (drop l.1) R) (drop l.1 z)
      (length-map R (drop l.1) ∙ e) (omega (arith, h, length-drop l.1 z))
      ∙ sum_over-equal K F n later here (keys ls) same)
    where
      here : ℕ → List ℕ
      here s = image_of K (columns_of (l ∷ ls) R s) (segment (l ∷ ls) z s)

      later : ℕ → List ℕ
      later s = image_of K (columns_of ls (map (drop l.1) R) s) (segment ls (drop l.1 z) s)

      by_test : ℕ → Bool → List ℕ
      by_test s b = image_of K (map (λ row. cond b (take l.1 row) (segment ls (drop l.1 row) s)) R)
          (cond b (take l.1 z) (segment ls (drop l.1 z) s))

      first : here l.0 ≡ image_of K (map (take l.1) R) (take l.1 z)
      first = ap (by_test l.0) (eq-eqb l.0 l.0 refl)

      same : (c : ℕ) → has c (keys ls) ≡ true → later c ≡ here c
      same c m =
          let apart : l.0 ≢ c = λ e. let bad : false ≡ true = sym (head-absent l.0 (keys ls) r)
          ∙ ap (λ q. has q (keys ls)) e ∙ m in cc in
          ap (λ A. image_of K A (segment ls (drop l.1 z) c)) (columns-later ls l.1 c R)
          ∙ sym (ap (by_test c) (ne_eqb l.0 c apart))
