-- A joined matrix of blocks with scalars of a field holds scalars of it: the parts at the listed cells cover it.
use Rattle.std.proofs.Common.{◌≡◌, ℕ, zero, suc, ◌<◌, ◌||◌, inl, inr, Bool, true, false, cond, eqb, List, [], ◌∷◌}
use Rattle.std.proofs.Common.{length, map, take, drop, get_or, All, refl, sym, ap, ◌∙◌, subst, arith, length-drop}
use Rattle.std.proofs.lemmas.Bool.{eq-eqb, ne_eqb, cases_eq}
use Rattle.std.proofs.lemmas.List.{take-append-drop, get_or-map, length-map}
use Rattle.std.proofs.lemmas.List.Elements.{All-append, All-nil, All-take, All-drop, All-head, All-tail}
use Rattle.dense_blocks.specs.Field.{Ops}
use Rattle.dense_blocks.specs.Vectors.{AllScalars}
use Rattle.dense_blocks.specs.Blocks.{matrix_of}
use Rattle.dense_blocks.specs.declared.block.Block.{Block}
use Rattle.dense_blocks.proofs.BlockLaws.{block-entries, block-size}
use Rattle.dense_blocks.proofs.Cutting.{Sized}
use Rattle.rising_lists.specs.Rising.{IsRising, has, keys}
use Rattle.rising_lists.proofs.Keyed.{rising_tail, head-absent}
use Rattle.block_sparse.specs.StoredBlocks.{StoredBlocks, complex_in}
use Rattle.block_complexes.specs.BlockComplexes.{IsBlockComplex, cells, size_of}
use Rattle.block_sparse.specs.Grids.{width, segment, IsJoined, AreSized}
use Rattle.block_sparse.proofs.ScalarBlocks.{flat-all}
use Rattle.block_sparse.proofs.StoredLaws.{live-scalars}
use Rattle.block_sparse.proofs.Windows.{sized-cut}
use Rattle.block_complexes.proofs.Sums.{has-head, has-tail}

module _ {A : Type 0} (P : A → Type 0) where
  -- what all items have, those of each cell have, and the other way round
  all-segment : (ls : List (ℕ × ℕ)) (xs : List A) (c : ℕ) → All P xs → All P (segment ls xs c)
  all-segment [] xs c h = All-nil P
  all-segment (l ∷ ls) xs c h = go (eqb l.0 c) (all-segment ls (drop l.1 xs) c (All-drop P l.1 xs h))
    where
      go : (b : Bool) → All P (segment ls (drop l.1 xs) c) → All P (cond b (take l.1 xs) (segment ls (drop l.1 xs) c))
      go true r = All-take P l.1 xs h
      go false r = r

  all-segments : (ls : List (ℕ × ℕ)) → IsRising (keys ls) → (xs : List A) → length xs ≡ width ls
      → ((c : ℕ) → has c (keys ls) ≡ true → All P (segment ls xs c)) → All P xs
  all-segments [] r [] e h = All-nil P
  all-segments [] r (x ∷ xs) e h = absurd (omega (arith, e))
  all-segments (l ∷ ls) r xs e h =
      subst (All P) (take-append-drop l.1 xs)
      (All-append P (take l.1 xs) (drop l.1 xs) here
      (all-segments ls (rising_tail l.0 (keys ls) r) (drop l.1 xs) (omega (arith, e, length-drop l.1 xs)) later))
    where
      here : All P (take l.1 xs)
      here = subst (λ b. All P (cond b (take l.1 xs) (segment ls (drop l.1 xs) l.0))) (eq-eqb l.0 l.0 refl)
          (h l.0 (has-head l.0 (keys ls)))

      later : (c : ℕ) → has c (keys ls) ≡ true → All P (segment ls (drop l.1 xs) c)
      later c m =
          let apart : l.0 ≡ c → ⊥ = λ e. let bad : false ≡ true = sym (head-absent l.0 (keys ls) r)
          ∙ ap (λ k. has k (keys ls)) e ∙ m in cc in
          subst (λ b. All P (cond b (take l.1 xs) (segment ls (drop l.1 xs) c))) (ne_eqb l.0 c apart)
          (h c (has-tail c l.0 (keys ls) m))

sized-all : (m n : ℕ) (A : List (List ℕ)) → Sized m n A → All (λ r. length r ≡ n) A
sized-all zero n [] h i d l = absurd (omega arith)
sized-all zero n (r ∷ A) h i d l = absurd h
sized-all (suc m) n [] h i d l = absurd h
sized-all (suc m) n (r ∷ A) h zero d l = h.0
sized-all (suc m) n (r ∷ A) h (suc i) d l = sized-all m n A h.1 i d (omega arith)

-- all listed cells are live
abbrev pub AreAllLive : List (ℕ × ℕ × ℕ) → List (ℕ × ℕ) → Type 0
AreAllLive live ls = (c : ℕ) → has c (keys ls) ≡ true → has c (cells live) ≡ true

pub sized-live : (live : List (ℕ × ℕ × ℕ)) (ls : List (ℕ × ℕ)) → AreSized live ls → AreAllLive live ls
sized-live live [] h c e = cc
sized-live live (l ∷ ls) h c e = elim (cases_eq l.0 c) [
  | inl f ↦ subst (λ k. has k (cells live) ≡ true) f (All-head (IsSized live) l ls h).0
  | inr n ↦ sized-live live ls (All-tail (IsSized live) l ls h) c (sym (ap (λ b. b || has c (keys ls)) (ne_eqb l.0 c n))
      ∙ e)
]
  where
    IsSized : List (ℕ × ℕ × ℕ) → ℕ × ℕ → Type 0
    IsSized live l = (has l.0 (cells live) ≡ true) × (size_of live l.0 ≡ l.1)

pub one-live : (live : List (ℕ × ℕ × ℕ)) (x n : ℕ) → has x (cells live) ≡ true → AreAllLive live ((x, n) ∷ [])
one-live live x n h c e = elim (cases_eq x c) [
  | inl f ↦ subst (λ k. has k (cells live) ≡ true) f h
  | inr d ↦ let bad : false ≡ true = sym (ap (λ b. b || false) (ne_eqb x c d)) ∙ e in cc
]

module _ (K : Ops) (v : StoredBlocks) (left below : List (ℕ × ℕ)) (b : Block) (over : IsBlockComplex K (complex_in v))
    (rl : IsRising (keys left)) (rb : IsRising (keys below))
    (on_left : AreAllLive v.live left) (is_below : AreAllLive v.live below)
    (wide : b.cols ≡ width left) (high : b.rows ≡ width below) (joined : IsJoined v left below (matrix_of b)) where
  abbrev rows : ℕ → List (List ℕ)
  rows t = segment below (matrix_of b) t

  sizes : (t : ℕ) → All (λ r. length r ≡ width left) (rows t)
  sizes t = all-segment (λ r. length r ≡ width left) below (matrix_of b) t
      (subst (λ n. All (λ r. length r ≡ n) (matrix_of b)) wide
      (sized-all b.rows b.cols (matrix_of b) (sized-cut b.rows b.cols b.entries (omega (arith, b.full)))))

  in_row : (t : ℕ) → has t (keys below) ≡ true → (i : ℕ) (d : List ℕ) → i < length (rows t)
      → AllScalars K (get_or (rows t) i d)
  in_row t ht i d l = all-segments (λ a. a < K.order) left rl (get_or (rows t) i d) (sizes t i d l) at_s
    where
      at_s : (s : ℕ) → has s (keys left) ≡ true → AllScalars K (segment left (get_or (rows t) i d) s)
      at_s s hs =
          let cut_at : List ℕ → List ℕ = λ row. segment left row s in
          let all : All (AllScalars K) (map cut_at (rows t)) = subst (All (AllScalars K)) (sym (joined s t hs ht))
          (live-scalars K v over s t (record { from = on_left s hs; to = is_below t ht })) in
          subst (AllScalars K) (get_or-map cut_at (rows t) i d [] l)
          (all i [] (omega (arith, l, length-map (rows t) cut_at)))

  pub joined-scalars : AllScalars K b.entries
  joined-scalars =
      subst (AllScalars K) (block-entries b)
      (flat-all K (matrix_of b) (all-segments (AllScalars K) below rb (matrix_of b) (block-size b ∙ high)
      (λ t ht i d l. in_row t ht i d l)))
