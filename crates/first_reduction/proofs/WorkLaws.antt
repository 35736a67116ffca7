-- Less is left to do after a removal, and after a flag is set.
use Rattle.std.proofs.Common.{◌≡◌, ◌≤◌, ◌<◌, ◌+◌, ◌*◌, ℕ, suc, Bool, true, false, cond, ◌||◌, List, [], ◌∷◌}
use Rattle.std.proofs.Common.{length, refl, sym, ap, ap₂, ◌∙◌, subst, arith, ◌-◌, Option, Some, None, get_or}
use Rattle.std.specs.Prelude.{◌==◌, ◌&&◌, not, sum_by, if◌then◌else◌}
use Rattle.std.proofs.lemmas.Bool.{eqb-true, eq-eqb}
use Rattle.std.proofs.lemmas.List.Sums.{sum_by-le, sum_by-le-sum_by, sum_by-cons}
use Rattle.rising_lists.specs.Rising.{has}
use Rattle.block_complexes.specs.BlockComplexes.{cells, size_of}
use Rattle.removals.specs.Removals.{live_without}
use Rattle.block_sparse.specs.StoredBlocks.{StoredBlocks, StoredBlock, block_at, with_flag}
use Rattle.block_sparse.specs.Candidates.{is_candidate, is_unflagged}
use Rattle.first_reduction.specs.Advances.{candidate_count, work_left}

abbrev bit : Bool → ℕ
bit b = if b then 1 else 0

bit-le : (b : Bool) → bit b ≤ 1
bit-le true = omega arith
bit-le false = omega arith

-- the terms at c and the sums after it, where s is c or comes later
less-then : (f g : ℕ → ℕ) (s : ℕ) → ((c : ℕ) → f c ≤ g c) → f s < g s → (c m n : ℕ) (later same : Bool)
    → (same ≡ true → c ≡ s) → (same || later) ≡ true → m ≤ n → (later ≡ true → m < n) → f c + m < g c + n
less-then f g s h l c m n later true e there le less =
    omega (arith, subst (λ k. f k < g k) (sym (e refl)) l, le)
less-then f g s h l c m n later false e there le less = omega (arith, h c, less there)

one-le : (b : Bool) (l : ℕ × ℕ × ℕ) (rest : List (ℕ × ℕ × ℕ)) (n : ℕ) → length rest ≤ n
    → length (cond b (l ∷ rest) rest) ≤ suc n
one-le true l rest n h = omega (arith, h)
one-le false l rest n h = omega (arith, h)

one-less : (b c later : Bool) (l : ℕ × ℕ × ℕ) (rest : List (ℕ × ℕ × ℕ)) (n : ℕ) → (b || later) ≡ true
    → length rest ≤ n → (later ≡ true → length rest < n) → length (cond (not (b || c)) (l ∷ rest) rest) < suc n
one-less true c later l rest n there le less = omega (arith, le)
one-less false true later l rest n there le less = omega (arith, le)
one-less false false later l rest n there le less = omega (arith, less there)

-- ---- sums

sum-le : (f g : ℕ → ℕ) → ((c : ℕ) → f c ≤ g c) → (cs : List ℕ) → sum_by f cs ≤ sum_by g cs
sum-le f g h cs = sum_by-le-sum_by f g cs h

-- a sum of terms that are not larger, one of them smaller, is smaller
sum-less : (f g : ℕ → ℕ) (s : ℕ) → ((c : ℕ) → f c ≤ g c) → f s < g s → (cs : List ℕ) → has s cs ≡ true
    → sum_by f cs < sum_by g cs
sum-less f g s h l [] there = cc
sum-less f g s h l (c ∷ cs) there =
    omega (
      arith,
      sum_by-cons f c cs,
      sum_by-cons g c cs,
      less-then f g s h l c (sum_by f cs) (sum_by g cs) (has s cs) (c == s) (eqb-true c s) there (sum-le f g h cs)
          (sum-less f g s h l cs),
    )

-- ---- candidates

count-le : (v : StoredBlocks) → candidate_count v ≤ length (cells v.live) * length (cells v.live)
count-le v =
    sum_by-le (λ s. sum_by (λ t. bit (is_candidate v s t)) (cells v.live)) (length (cells v.live)) (cells v.live)
    (λ i d l. row-le (get_or (cells v.live) i d))
  where
    row-le : (s : ℕ) → sum_by (λ t. bit (is_candidate v s t)) (cells v.live) ≤ length (cells v.live)
    row-le s = omega (
      arith,
      sum_by-le (λ t. bit (is_candidate v s t)) 1 (cells v.live)
          (λ i d l. bit-le (is_candidate v s (get_or (cells v.live) i d))),
    )

length-cells : (live : List (ℕ × ℕ × ℕ)) → length (cells live) ≡ length live
length-cells [] = refl
length-cells (l ∷ ls) = ap suc (length-cells ls)

-- ---- a removal

without-le : (live : List (ℕ × ℕ × ℕ)) (x y : ℕ) → length (live_without live x y) ≤ length live
without-le [] x y = omega arith
without-le (l ∷ ls) x y = one-le (not (l.0 == x || l.0 == y)) l (live_without ls x y) (length ls) (without-le ls x y)

without-less : (live : List (ℕ × ℕ × ℕ)) (x y : ℕ) → has x (cells live) ≡ true
    → length (live_without live x y) < length live
without-less [] x y there = cc
without-less (l ∷ ls) x y there =
    one-less (l.0 == x) (l.0 == y) (has x (cells ls)) l (live_without ls x y) (length ls) there (without-le ls x y)
    (without-less ls x y)

cubes : (m k c : ℕ) → c ≤ m * m → m * m * m + c < (m + 1 + k) * (m + 1 + k) * (m + 1 + k)
cubes m k c h = omega (arith, h)

fewer-less : (m n c d : ℕ) → m < n → c ≤ m * m → m * m * m + c < n * n * n + d
fewer-less m n c d l h =
    subst (λ n. m * m * m + c < n * n * n + d) (sym e) (omega (arith, cubes m (n - (m + 1)) c h))
  where
    e : n ≡ m + 1 + (n - (m + 1))
    e = omega (arith, l)

pub removed-less : (v w : StoredBlocks) (x y : ℕ) → has x (cells v.live) ≡ true → w.live ≡ live_without v.live x y
    → work_left w < work_left v
removed-less v w x y there e =
    fewer-less (length w.live) (length v.live) (candidate_count w) (candidate_count v)
    (subst (λ l. length l < length v.live) (sym e) (without-less v.live x y there))
    (subst (λ n. candidate_count w ≤ n * n) (length-cells w.live) (count-le w))

-- ---- a flag

flagged-unflagged : (o : Option StoredBlock) → is_unflagged (with_flag o) ≡ false
flagged-unflagged None = refl
flagged-unflagged (Some b) = refl

module _ (v w : StoredBlocks) (s t : ℕ) (live : w.live ≡ v.live)
    (blocks : (p q : ℕ) → block_at w p q
    ≡ (if p == s && q == t then with_flag (block_at v s t) else block_at v p q)) where
  -- what is no candidate any more, or what it was
  at : (p q : ℕ) → is_candidate w p q
      ≡ (is_unflagged (if p == s && q == t then with_flag (block_at v s t) else block_at v p q)
      && (size_of v.live p == size_of v.live q))
  at p q = ap₂ (λ o l. is_unflagged o && (size_of l p == size_of l q)) (blocks p q) live

  no-more : (p q : ℕ) → bit (is_candidate w p q) ≤ bit (is_candidate v p q)
  no-more p q = subst (λ b. bit b ≤ bit (is_candidate v p q)) (sym (at p q)) (go (p == s && q == t))
    where
      go : (b : Bool) → bit (is_unflagged (cond b (with_flag (block_at v s t)) (block_at v p q))
          && (size_of v.live p == size_of v.live q)) ≤ bit (is_candidate v p q)
      go true = subst (λ b. bit (b && (size_of v.live p == size_of v.live q)) ≤ bit (is_candidate v p q))
          (sym (flagged-unflagged (block_at v s t))) (omega arith)
      go false = omega arith

  not-there : is_candidate w s t ≡ false
  not-there =
      at s t
      ∙ ap₂ (λ a b. is_unflagged (cond (a && b) (with_flag (block_at v s t)) (block_at v s t))
      && (size_of v.live s == size_of v.live t)) (eq-eqb s s refl) (eq-eqb t t refl)
      ∙ ap (λ b. b && (size_of v.live s == size_of v.live t)) (flagged-unflagged (block_at v s t))

  abbrev row : StoredBlocks → ℕ → ℕ
  row u p = sum_by (λ q. bit (is_candidate u p q)) (cells v.live)

  row-le : (p : ℕ) → row w p ≤ row v p
  row-le p = sum-le (λ q. bit (is_candidate w p q)) (λ q. bit (is_candidate v p q)) (no-more p) (cells v.live)

  at-less : is_candidate v s t ≡ true → bit (is_candidate w s t) < bit (is_candidate v s t)
  at-less was = subst (λ b. bit b < bit (is_candidate v s t)) (sym not-there)
      (subst (λ b. bit false < bit b) (sym was) (omega arith))

  row-less : is_candidate v s t ≡ true → has t (cells v.live) ≡ true → row w s < row v s
  row-less was to = sum-less (λ q. bit (is_candidate w s q)) (λ q. bit (is_candidate v s q)) t (no-more s) (at-less was)
      (cells v.live) to

  pub flagged-less : is_candidate v s t ≡ true → has s (cells v.live) ≡ true → has t (cells v.live) ≡ true
      → work_left w < work_left v
  flagged-less was from to =
      subst (λ l. length l * length l * length l
      + sum_by (λ p. sum_by (λ q. bit (is_candidate w p q)) (cells l)) (cells l)
      < work_left v) (sym live)
      (omega (arith, sum-less (row w) (row v) s row-le (row-less was to) (cells v.live) from))
