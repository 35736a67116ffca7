-- The first cell at which a cochain is not zero, live cell by live cell.
use Rattle.std.proofs.Common.{◌≡◌, ◌≢◌, ◌<◌, ◌≤◌, ◌+◌, ℕ, zero, suc, Bool, true, false, cond, ◌||◌}
use Rattle.std.proofs.Common.{eqb, refl, sym, ap, ◌∙◌, List, [], ◌∷◌, length, take, drop, get_or, All, subst, arith}
use Rattle.std.proofs.Common.{add-one, drop-cons}
use Rattle.std.proofs.lemmas.Bool.{eq-eqb, ne_eqb, eqb-true}
use Rattle.std.proofs.lemmas.List.{drop-drop, take-append-drop}
use Rattle.std.proofs.lemmas.List.Elements.{All-append, All-nil}
use Rattle.cochain_vec.specs.declared.cell.Cell.{Cell}
use Rattle.cochain_vec.specs.Complexes.{total_size, value_at}
use Rattle.rising_lists.specs.Rising.{IsRising, has}
use Rattle.rising_lists.proofs.Keyed.{rising_tail, rising_head, place_of}
use Rattle.block_complexes.specs.BlockComplexes.{cells}
use Rattle.block_complexes.specs.Cochains.{cell_of, of_degree}
use Rattle.block_complexes.proofs.DegreeLaws.{start-next}
use Rattle.cocycle_bases.specs.Classes.{numbers, IsZeroAt, IsFirstNonzeroCell}

abbrev pub AllZero : List ℕ → Type 0
AllZero z = All (λ a. a ≡ 0) z

-- a cell before the others, at which z is zero
zero-head : (c : Cell) (cs : List Cell) (z : List ℕ) (t : ℕ)
    → ((s : ℕ) → has s (numbers cs) ≡ true → c.cell < s) → AllZero (take c.size z)
    → IsFirstNonzeroCell cs (drop c.size z) t → IsFirstNonzeroCell (c ∷ cs) z t
zero-head c cs z t above h first = record {
  cell = later (eqb c.cell t) first.cell;
  nonzero = λ is. first.nonzero (subst (λ b. AllZero (at b t)) (ne_eqb c.cell t apart) is);
  zero_before = λ s m l. before s l (eqb c.cell s) m;
}
  where
    at : Bool → ℕ → List ℕ
    at b s = cond b (take c.size z) (value_at cs (drop c.size z) s)

    apart : c.cell ≢ t
    apart e = let less : c.cell < t = above t first.cell in absurd (omega (arith, less, e))

    later : (b : Bool) → has t (numbers cs) ≡ true → (b || has t (numbers cs)) ≡ true
    later true m = refl
    later false m = m

    before : (s : ℕ) → s < t → (b : Bool) → (b || has s (numbers cs)) ≡ true → AllZero (at b s)
    before s l true m = h
    before s l false m = first.zero_before s m l

-- a cell before the others, at which it is not
open-head : (c : Cell) (cs : List Cell) (z : List ℕ) → ((s : ℕ) → has s (numbers cs) ≡ true → c.cell < s)
    → (AllZero (take c.size z) → ⊥) → IsFirstNonzeroCell (c ∷ cs) z c.cell
open-head c cs z above h = record {
  cell = ap (λ b. b || has c.cell (numbers cs)) (eq-eqb c.cell c.cell refl);
  nonzero = λ is. h (subst (λ b. AllZero (cond b (take c.size z) (value_at cs (drop c.size z) c.cell)))
      (eq-eqb c.cell c.cell refl) is);
  zero_before = λ s m l. none s l (eqb c.cell s) (eqb-true c.cell s) m;
}
  where
    none : (s : ℕ) → s < c.cell → (b : Bool) → (b ≡ true → c.cell ≡ s) → (b || has s (numbers cs)) ≡ true
        → IsZeroAt (c ∷ cs) z s
    none s l true e m = let same : c.cell ≡ s = e refl in absurd (omega (arith, l, same))
    none s l false e m = let less : c.cell < s = above s m in absurd (omega (arith, l, less))

-- the cells of a degree are live
listed : (k : ℕ) (ls : List (ℕ × ℕ × ℕ)) (t : ℕ) → has t (numbers (of_degree k ls)) ≡ true
    → has t (cells ls) ≡ true
listed k [] t h = h
listed k (l ∷ ls) t h = go (eqb l.1 k) (eqb l.0 t) refl (listed k ls t) h
  where
    go : (b e : Bool) → eqb l.0 t ≡ e → (has t (numbers (of_degree k ls)) ≡ true → has t (cells ls) ≡ true)
        → has t (numbers (cond b (cell_of l ∷ of_degree k ls) (of_degree k ls))) ≡ true
        → (e || has t (cells ls)) ≡ true
    go b true f r m = refl
    go true false f r m = r (rw f at m)
    go false false f r m = r m

module _ (k : ℕ) (l : ℕ × ℕ × ℕ) (ls : List (ℕ × ℕ × ℕ)) (rises : IsRising (cells (l ∷ ls))) (z : List ℕ) where
  above : (s : ℕ) → has s (numbers (of_degree k ls)) ≡ true → l.0 < s
  above s m =
      let p = place_of (cells ls) s (listed k ls s m) in
      omega (arith, rising_head l.0 (cells ls) rises p.at p.inside, p.is)

  abbrev size : ℕ
  size = total_size (of_degree k (l ∷ []))

  -- the first of the later cells is that of all
  zero-next : (t : ℕ) → AllZero (take size z) → IsFirstNonzeroCell (of_degree k ls) (drop size z) t
      → IsFirstNonzeroCell (of_degree k (l ∷ ls)) z t
  zero-next t = go (eqb l.1 k)
    where
      go : (b : Bool) → AllZero (take (total_size (cond b (cell_of l ∷ []) [])) z)
          → IsFirstNonzeroCell (of_degree k ls) (drop (total_size (cond b (cell_of l ∷ []) [])) z) t
          → IsFirstNonzeroCell (cond b (cell_of l ∷ of_degree k ls) (of_degree k ls)) z t
      go false h first = first
      go true h first =
          let e : l.2 + 0 ≡ l.2 = omega arith in
          zero-head (cell_of l) (of_degree k ls) z t above (subst (λ n. AllZero (take n z)) e h)
          (subst (λ n. IsFirstNonzeroCell (of_degree k ls) (drop n z) t) e first)

  open-next : (AllZero (take size z) → ⊥) → IsFirstNonzeroCell (of_degree k (l ∷ ls)) z l.0
  open-next = go (eqb l.1 k)
    where
      go : (b : Bool) → (AllZero (take (total_size (cond b (cell_of l ∷ []) [])) z) → ⊥)
          → IsFirstNonzeroCell (cond b (cell_of l ∷ of_degree k ls) (of_degree k ls)) z l.0
      go false h = absurd (h (All-nil (λ (a : ℕ). a ≡ 0)))
      go true h =
          let e : l.2 ≡ l.2 + 0 = omega arith in
          open-head (cell_of l) (of_degree k ls) z above (λ is. h (subst (λ n. AllZero (take n z)) e is))

rising-drop : (live : List (ℕ × ℕ × ℕ)) (i : ℕ) → IsRising (cells live) → IsRising (cells (drop i live))
rising-drop [] zero r = r
rising-drop [] (suc i) r = r
rising-drop (l ∷ ls) zero r = r
rising-drop (l ∷ ls) (suc i) r = rising-drop ls i (rising_tail l.0 (cells ls) r)

within-total : (k : ℕ) (live : List (ℕ × ℕ × ℕ)) (i : ℕ) → total_size (of_degree k (take i live))
    ≤ total_size (of_degree k live)
within-total k [] zero = omega arith
within-total k [] (suc i) = omega arith
within-total k (l ∷ ls) zero = omega arith
within-total k (l ∷ ls) (suc i) = go (eqb l.1 k) (within-total k ls i)
  where
    go : (b : Bool) → total_size (of_degree k (take i ls)) ≤ total_size (of_degree k ls)
        → total_size (cond b (cell_of l ∷ of_degree k (take i ls)) (of_degree k (take i ls)))
        ≤ total_size (cond b (cell_of l ∷ of_degree k ls) (of_degree k ls))
    go true h = omega arith
    go false h = h

-- up to the place i the cochain, whose coordinates at the later cells begin at start, is zero
pub record IsZeroSoFar (k : ℕ) (live : List (ℕ × ℕ × ℕ)) (z : List ℕ) (i start : ℕ) : Type 0 where
  pub start_is : start ≡ total_size (of_degree k (take i live))
  pub first : (t : ℕ) → IsFirstNonzeroCell (of_degree k (drop i live)) (drop start z) t
      → IsFirstNonzeroCell (of_degree k live) z t
  pub zero : AllZero (drop start z) → AllZero z

module _ (k : ℕ) (live : List (ℕ × ℕ × ℕ)) (rises : IsRising (cells live)) (z : List ℕ) (i start : ℕ)
    (so_far : IsZeroSoFar k live z i start) where
  module _ (d : ℕ × ℕ × ℕ) (inside : i < length live) where
    abbrev cell : ℕ × ℕ × ℕ
    cell = get_or live i d

    abbrev count : ℕ
    count = total_size (of_degree k (cell ∷ []))

    pub end-within : length z ≡ total_size (of_degree k live) → start + count ≤ length z
    end-within full =
        omega (arith, so_far.start_is, start-next k live i d inside, within-total k live (i + 1), full)

    split : drop i live ≡ cell ∷ drop (i + 1) live
    split = drop-cons live i d inside ∙ ap (λ j. cell ∷ drop j live) (sym (add-one i))

    rises_here : IsRising (cells (cell ∷ drop (i + 1) live))
    rises_here = subst (λ ls. IsRising (cells ls)) split (rising-drop live i rises)

    pub zero_so_far-next : (end : ℕ) → end ≡ start + count → AllZero (take count (drop start z))
        → IsZeroSoFar k live z (i + 1) end
    zero_so_far-next end e h = record {
      start_is = omega (arith, so_far.start_is, start-next k live i d inside, e);
      first = λ t first. so_far.first t
          (subst (λ ls. IsFirstNonzeroCell (of_degree k ls) (drop start z) t) (sym split)
          (zero-next k cell (drop (i + 1) live) rises_here (drop start z) t h
          (subst (λ u. IsFirstNonzeroCell (of_degree k (drop (i + 1) live)) u t) (sym later) first)));
      zero = λ rest. so_far.zero
          (subst AllZero (take-append-drop count (drop start z))
          (All-append (λ (a : ℕ). a ≡ 0) (take count (drop start z)) (drop count (drop start z)) h
          (subst AllZero (sym later) rest)));
    }
      where
        later : drop count (drop start z) ≡ drop end z
        later = drop-drop count start z ∙ ap (λ n. drop n z) (sym e)

    pub first-found : (AllZero (take count (drop start z)) → ⊥) → IsFirstNonzeroCell (of_degree k live) z cell.0
    first-found h = so_far.first cell.0
        (subst (λ ls. IsFirstNonzeroCell (of_degree k ls) (drop start z) cell.0) (sym split)
        (open-next k cell (drop (i + 1) live) rises_here (drop start z) h))
