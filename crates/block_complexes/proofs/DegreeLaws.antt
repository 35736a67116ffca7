-- The live cells of one degree: where the coordinates of each begin, and the value there.
use Rattle.std.proofs.Common.{◌≡◌, ◌≢◌, ℕ, zero, suc, ◌<◌, ◌≤◌, ◌+◌, Bool, true, false, cond, ◌||◌, refl, sym, ap, ◌∙◌}
use Rattle.std.proofs.Common.{arith, List, [], ◌∷◌, ◌++◌, length, map, filter, get_or, take, drop, eqb, zero-add}
use Rattle.std.specs.List.{flat_map}
use Rattle.std.proofs.lemmas.Bool.{eq-eqb, ne_eqb}
use Rattle.std.proofs.lemmas.List.{take_more, map-append, drop-drop}
use Rattle.std.proofs.lemmas.List.Elements.{filter-append}
use Rattle.std.proofs.lemmas.Grind.{flat_map-append}
use Rattle.cochain_vec.specs.declared.cell.Cell.{Cell}
use Rattle.cochain_vec.specs.Complexes.{total_size, value_at}
use Rattle.rising_lists.specs.Rising.{IsRising, has}
use Rattle.rising_lists.proofs.Keyed.{rising_tail, rising_head}
use Rattle.block_complexes.specs.BlockComplexes.{cells}
use Rattle.block_complexes.specs.BlockComplexes as blocks
use Rattle.block_complexes.specs.Cochains.{cell_of, of_degree}
use Rattle.block_complexes.proofs.LiveLaws.{cell-at, length-cells, total-take}

-- one cell more
of_degree-next : (k : ℕ) (live : List (ℕ × ℕ × ℕ)) (i : ℕ) (d : ℕ × ℕ × ℕ) → i < length live
    → of_degree k (take (i + 1) live) ≡ of_degree k (take i live) ++ of_degree k (get_or live i d ∷ [])
of_degree-next k live i d l =
    ap (of_degree k) (take_more live i d l)
    ∙ ap (filter (λ (c : Cell). eqb c.degree k)) (map-append cell_of (take i live) (get_or live i d ∷ []))
    ∙ filter-append (λ (c : Cell). eqb c.degree k) (map cell_of (take i live)) (cell_of (get_or live i d) ∷ [])

total-append : (cs ds : List Cell) → total_size (cs ++ ds) ≡ total_size cs + total_size ds
total-append [] ds = sym (zero-add (total_size ds))
total-append (c ∷ cs) ds = omega (arith, total-append cs ds)

pub start-next : (k : ℕ) (live : List (ℕ × ℕ × ℕ)) (i : ℕ) (d : ℕ × ℕ × ℕ) → i < length live
    → total_size (of_degree k (take (i + 1) live)) ≡ total_size (of_degree k (take i live))
    + total_size (of_degree k (get_or live i d ∷ []))
start-next k live i d l = ap total_size (of_degree-next k live i d l) ∙ total-append (of_degree k (take i live))
    (of_degree k (get_or live i d ∷ []))

pub parts-next : (piece : Cell → List ℕ) (k : ℕ) (live : List (ℕ × ℕ × ℕ)) (i : ℕ) (d : ℕ × ℕ × ℕ) → i < length live
    → flat_map piece (of_degree k (take (i + 1) live)) ≡ flat_map piece (of_degree k (take i live))
    ++ flat_map piece (of_degree k (get_or live i d ∷ []))
parts-next piece k live i d l = ap (flat_map piece) (of_degree-next k live i d l)
    ∙ flat_map-append piece (of_degree k (take i live)) (of_degree k (get_or live i d ∷ []))

-- the cells of one degree have no more coordinates than all
total-of_degree : (k : ℕ) (live : List (ℕ × ℕ × ℕ)) → total_size (of_degree k live) ≤ blocks.live_size live
total-of_degree k [] = omega arith
total-of_degree k (l ∷ ls) = go (eqb l.1 k) (total-of_degree k ls)
  where
    go : (b : Bool) → total_size (of_degree k ls) ≤ blocks.live_size ls
        → total_size (cond b (cell_of l ∷ of_degree k ls) (of_degree k ls)) ≤ l.2 + blocks.live_size ls
    go true h = omega arith
    go false h = omega arith

-- the value at a cell of the degree
pub value-place : (k : ℕ) (live : List (ℕ × ℕ × ℕ)) (z : List ℕ) (i : ℕ) → IsRising (cells live) → i < length live
    → (get_or live i (0, 0, 0)).1 ≡ k
    → value_at (of_degree k live) z (get_or live i (0, 0, 0)).0 ≡ take (get_or live i (0, 0, 0)).2
    (drop (total_size (of_degree k (take i live))) z)
value-place k [] z i r l e = absurd (omega arith)
value-place k (x ∷ xs) z zero r l e = rw (eq-eqb x.1 k e, eq-eqb x.0 x.0 refl) refl
value-place k (x ∷ xs) z (suc i) r l e =
    go (eqb x.1 k) (λ y. value-place k xs y i (rising_tail x.0 (cells xs) r) (omega arith) e)
  where
    s : ℕ
    s = (get_or xs i (0, 0, 0)).0

    n : ℕ
    n = (get_or xs i (0, 0, 0)).2

    before : List Cell
    before = of_degree k (take i xs)

    apart : x.0 ≢ s
    apart f = absurd (omega (
      arith,
      rising_head x.0 (cells xs) r i (omega (arith, l, length-cells xs)),
      cell-at xs i (omega (arith, l)),
      f,
    ))

    go : (b : Bool) → ((y : List ℕ) → value_at (of_degree k xs) y s ≡ take n (drop (total_size before) y))
        → value_at (cond b (cell_of x ∷ of_degree k xs) (of_degree k xs)) z s
        ≡ take n (drop (total_size (cond b (cell_of x ∷ before) before)) z)
    go true h = rw (ne_eqb x.0 s apart) (h (drop x.2 z) ∙ ap (take n) (drop-drop (total_size before) x.2 z))
    go false h = h z

-- and it lies within the cochain
pub value-within : (k : ℕ) (live : List (ℕ × ℕ × ℕ)) (i : ℕ) → i < length live → (get_or live i (0, 0, 0)).1 ≡ k
    → total_size (of_degree k (take i live)) + (get_or live i (0, 0, 0)).2 ≤ total_size (of_degree k live)
value-within k [] i l e = absurd (omega arith)
value-within k (x ∷ xs) zero l e = rw (eq-eqb x.1 k e) (omega arith)
value-within k (x ∷ xs) (suc i) l e = go (eqb x.1 k) (value-within k xs i (omega arith) e)
  where
    go : (b : Bool) → total_size (of_degree k (take i xs)) + (get_or xs i (0, 0, 0)).2 ≤ total_size (of_degree k xs)
        → total_size (cond b (cell_of x ∷ of_degree k (take i xs)) (of_degree k (take i xs)))
        + (get_or xs i (0, 0, 0)).2
        ≤ total_size (cond b (cell_of x ∷ of_degree k xs) (of_degree k xs))
    go true h = omega arith
    go false h = omega arith

-- a cell that is not live has no value
pub value-absent : (k : ℕ) (live : List (ℕ × ℕ × ℕ)) (z : List ℕ) (s : ℕ) → has s (cells live) ≡ false
    → value_at (of_degree k live) z s ≡ []
value-absent k [] z s h = refl
value-absent k (x ∷ xs) z s h = go (eqb x.1 k) (eqb x.0 s) refl h (λ y m. value-absent k xs y s m)
  where
    go : (b e : Bool) → eqb x.0 s ≡ e → (e || has s (cells xs)) ≡ false
        → ((y : List ℕ) → has s (cells xs) ≡ false → value_at (of_degree k xs) y s ≡ [])
        → value_at (cond b (cell_of x ∷ of_degree k xs) (of_degree k xs)) z s ≡ []
    go b true f m r = cc
    go true false f m r = rw f (r (drop x.2 z) m)
    go false false f m r = r z m

pub start-within : (k : ℕ) (live : List (ℕ × ℕ × ℕ)) (i : ℕ) → total_size (of_degree k (take i live))
    ≤ blocks.live_size live
start-within k live i = omega (arith, total-of_degree k (take i live), total-take live i)
