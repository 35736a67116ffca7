-- Live cells without one of them.
use Rattle.std.proofs.Common.{◌≡◌, ◌≢◌, ℕ, zero, suc, ◌<◌, ◌≤◌, ◌+◌, Bool, true, false, cond, not, ◌||◌, refl, sym, ap}
use Rattle.std.proofs.Common.{◌∙◌, arith, ◌⊎◌, inl, inr, List, [], ◌∷◌, length, get_or, eqb, filter}
use Rattle.std.proofs.lemmas.Bool.{eq-eqb, ne_eqb, cases_eq}
use Rattle.std.specs.List.{remove}
use Rattle.rising_lists.specs.Rising.{IsRising, has}
use Rattle.rising_lists.proofs.Keyed.{rising_tail, rising_head, rising_cons, head-absent}
use Rattle.block_complexes.specs.BlockComplexes.{cells, of_cell, live_size}
use Rattle.block_complexes.proofs.LiveLaws.{cell-at, length-cells}

abbrev pub without : ℕ → List (ℕ × ℕ × ℕ) → List (ℕ × ℕ × ℕ)
without c live = filter (λ l. not (eqb l.0 c)) live

pub has-without : (c : ℕ) (live : List (ℕ × ℕ × ℕ)) (q : ℕ) → q ≢ c → has q (cells (without c live))
    ≡ has q (cells live)
has-without c [] q n = refl
has-without c (l ∷ ls) q n = go (cases_eq l.0 c) (has-without c ls q n)
  where
    go : (l.0 ≡ c) ⊎ (l.0 ≡ c → ⊥) → has q (cells (without c ls)) ≡ has q (cells ls)
        → has q (cells (cond (not (eqb l.0 c)) (l ∷ without c ls) (without c ls))) ≡ (eqb l.0 q || has q (cells ls))
    go (inl e) h = rw (eq-eqb l.0 c e, ne_eqb l.0 q (λ f. n (sym f ∙ e))) h
    go (inr e) h = rw (ne_eqb l.0 c e) (ap (λ b. eqb l.0 q || b) h)

pub still-live : (c : ℕ) (live : List (ℕ × ℕ × ℕ)) (q : ℕ) → has q (cells (without c live)) ≡ true → has q (cells live)
    ≡ true
still-live c [] q h = h
still-live c (l ∷ ls) q h = go (eqb l.0 c) (λ m. still-live c ls q m) h
  where
    or_right : (a b : Bool) → b ≡ true → (a || b) ≡ true
    or_right true b e = refl
    or_right false b e = e

    kept : (a b b' : Bool) → (b ≡ true → b' ≡ true) → (a || b) ≡ true → (a || b') ≡ true
    kept true b b' f e = refl
    kept false b b' f e = f e

    go : (b : Bool) → (has q (cells (without c ls)) ≡ true → has q (cells ls) ≡ true)
        → has q (cells (cond (not b) (l ∷ without c ls) (without c ls))) ≡ true → (eqb l.0 q || has q (cells ls)) ≡ true
    go true f m = or_right (eqb l.0 q) (has q (cells ls)) (f m)
    go false f m = kept (eqb l.0 q) (has q (cells (without c ls))) (has q (cells ls)) f m

pub of_cell-without : (g : ℕ × ℕ × ℕ → ℕ) (c : ℕ) (live : List (ℕ × ℕ × ℕ)) (q : ℕ) → q ≢ c
    → of_cell g (without c live) q ≡ of_cell g live q
of_cell-without g c [] q n = refl
of_cell-without g c (l ∷ ls) q n = go (cases_eq l.0 c) (of_cell-without g c ls q n)
  where
    go : (l.0 ≡ c) ⊎ (l.0 ≡ c → ⊥) → of_cell g (without c ls) q ≡ of_cell g ls q
        → of_cell g (cond (not (eqb l.0 c)) (l ∷ without c ls) (without c ls)) q ≡ cond (eqb l.0 q) (g l)
        (of_cell g ls q)
    go (inl e) h = rw (eq-eqb l.0 c e, ne_eqb l.0 q (λ f. n (sym f ∙ e))) h
    go (inr e) h = rw (ne_eqb l.0 c e) (ap (cond (eqb l.0 q) (g l)) h)

above-without : (k c : ℕ) (live : List (ℕ × ℕ × ℕ)) → ((i : ℕ) → i < length (cells live) → k < get_or (cells live) i 0)
    → (i : ℕ) → i < length (cells (without c live)) → k < get_or (cells (without c live)) i 0
above-without k c [] a i l = absurd (omega arith)
above-without k c (x ∷ xs) a i l = go (eqb x.0 c) (above-without k c xs (λ j m. a (suc j) (omega arith))) i l
  where
    go : (b : Bool) → ((i : ℕ) → i < length (cells (without c xs)) → k < get_or (cells (without c xs)) i 0)
        → (i : ℕ) → i < length (cells (cond (not b) (x ∷ without c xs) (without c xs))) → k
        < get_or (cells (cond (not b) (x ∷ without c xs) (without c xs))) i 0
    go true h i l = h i l
    go false h zero l = a 0 (omega arith)
    go false h (suc i) l = h i (omega arith)

pub rising-without : (c : ℕ) (live : List (ℕ × ℕ × ℕ)) → IsRising (cells live) → IsRising (cells (without c live))
rising-without c [] r = r
rising-without c (l ∷ ls) r = go (eqb l.0 c) (rising-without c ls (rising_tail l.0 (cells ls) r))
    (above-without l.0 c ls (rising_head l.0 (cells ls) r))
  where
    go : (b : Bool) → IsRising (cells (without c ls))
        → ((i : ℕ) → i < length (cells (without c ls)) → l.0 < get_or (cells (without c ls)) i 0)
        → IsRising (cells (cond (not b) (l ∷ without c ls) (without c ls)))
    go true h a = h
    go false h a = rising_cons l.0 (cells (without c ls)) a h

pub total-without : (c : ℕ) (live : List (ℕ × ℕ × ℕ)) → live_size (without c live) ≤ live_size live
total-without c [] = omega arith
total-without c (l ∷ ls) = go (eqb l.0 c) (total-without c ls)
  where
    go : (b : Bool) → live_size (without c ls) ≤ live_size ls
        → live_size (cond (not b) (l ∷ without c ls) (without c ls)) ≤ l.2 + live_size ls
    go true h = omega arith
    go false h = omega arith

-- without a cell that is not live
pub without-absent : (c : ℕ) (live : List (ℕ × ℕ × ℕ)) → has c (cells live) ≡ false → without c live ≡ live
without-absent c [] h = refl
without-absent c (l ∷ ls) h = go (eqb l.0 c) (λ m. without-absent c ls m) h
  where
    go : (b : Bool) → (has c (cells ls) ≡ false → without c ls ≡ ls) → (b || has c (cells ls)) ≡ false
        → cond (not b) (l ∷ without c ls) (without c ls) ≡ l ∷ ls
    go true f m = cc
    go false f m = ap (λ x. l ∷ x) (f m)

pub without-at : (c : ℕ) (live : List (ℕ × ℕ × ℕ)) (i : ℕ) → IsRising (cells live) → i < length live
    → (get_or live i (0, 0, 0)).0 ≡ c → remove live i ≡ without c live
without-at c [] i r l e = absurd (omega arith)
without-at c (x ∷ xs) zero r l e =
    sym (ap (λ b. cond (not b) (x ∷ without c xs) (without c xs)) (eq-eqb x.0 c e)
    ∙ without-absent c xs (ap (λ k. has k (cells xs)) (sym e) ∙ head-absent x.0 (cells xs) r))
without-at c (x ∷ xs) (suc i) r l e =
    let apart : x.0 ≢ c = λ f.
    absurd (omega (
      arith,
      rising_head x.0 (cells xs) r i (omega (arith, length-cells xs)),
      cell-at xs i (omega arith),
      e,
      f,
    )) in
    ap (λ t. x ∷ t) (without-at c xs i (rising_tail x.0 (cells xs) r) (omega arith) e)
    ∙ sym (ap (λ b. cond (not b) (x ∷ without c xs) (without c xs)) (ne_eqb x.0 c apart))
