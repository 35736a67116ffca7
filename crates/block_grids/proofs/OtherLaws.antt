-- Where a matrix first differs from the blocks that stand.
use Rattle.std.proofs.Common.{◌≡◌, ℕ, ◌+◌, ◌<◌, ◌≤◌, true, List, length, get_or, take, sym, ap₂, ◌∙◌, subst, arith, inl}
use Rattle.std.proofs.Common.{inr}
use Rattle.std.proofs.lemmas.Bool.{cases_lt}
use Rattle.std.proofs.lemmas.List.{get_or-map, length-map}
use Rattle.dense_blocks.specs.declared.block.Block.{Block}
use Rattle.rising_lists.specs.Rising.{ByCell, IsRising, has, keys, line_of}
use Rattle.rising_lists.proofs.Keyed.{place_of, rising_le}
use Rattle.block_sparse.specs.StoredBlocks.{StoredBlocks, matrix}
use Rattle.block_sparse.specs.Grids.{width, part, IsJoined, AreSized, IsFirstOther}
use Rattle.block_grids.specs.Joined.{IsSamePart}
use Rattle.block_sparse.proofs.GridLaws.{part-window, key-listed}
use Rattle.block_grids.proofs.JoinLaws.{corner-matrix}

-- in the first j rows all is the same before the column at end; if that is none of n, the first row where it differs is
-- the one at at
pub record IsEarliest (Same : ℕ → ℕ → Type 0) (n j end at : ℕ) : Type 0 where
  pub within : end ≤ n
  pub before : (i k : ℕ) → i < end → k < j → Same i k
  pub inside : end < n → at < j
  pub other : end < n → Same end at → ⊥
  pub first : end < n → (k : ℕ) → k < at → Same end k

module _ (Same : ℕ → ℕ → Type 0) (n : ℕ) where
  -- one more row, which differs before that column
  pub earliest-less : (j end at same : ℕ) → IsEarliest Same n j end at → same < end → ((i : ℕ) → i < same → Same i j)
      → (Same same j → ⊥)
      → IsEarliest Same n (j + 1) same j
  earliest-less j end at same h l are other = record {
    within = omega (arith, h.within);
    before = λ i k u w. elim (cases_lt k j) [
      | inl m ↦ h.before i k (omega arith) m
      | inr m ↦ let e : j ≡ k = omega arith in subst (Same i) e (are i u)
    ];
    inside = λ m. omega arith;
    other = λ m. other;
    first = λ m k u. h.before same k l u;
  }

  -- one more row, which does not
  pub earliest-kept : (j end at same : ℕ) → IsEarliest Same n j end at → same ≡ end → ((i : ℕ) → i < same → Same i j)
      → IsEarliest Same n (j + 1) same at
  earliest-kept j end at same h e are =
      subst (λ c. ((i : ℕ) → i < c → Same i j) → IsEarliest Same n (j + 1) c at) (sym e)
      (λ are. record {
        within = h.within;
        before = λ i k u w. elim (cases_lt k j) [
          | inl m ↦ h.before i k u m
          | inr m ↦ let e : j ≡ k = omega arith in subst (Same i) e (are i u)
        ];
        inside = λ m. omega (arith, h.inside m);
        other = h.other;
        first = h.first;
      })
      are

-- at the cells at two places the part of a matrix is the block
abbrev pub SameAt : ByCell (ByCell Block) → List (ℕ × ℕ) → List (ℕ × ℕ) → List (List ℕ) → ℕ → ℕ → Type 0
SameAt rows left below A i k = IsSamePart (line_of rows (get_or below k (0, 0)).0) left A (width (take k below))
    (get_or below k (0, 0)).1 i

-- places in rising lists go as the cells there
before-key : (ks : List ℕ) → IsRising ks → (i k : ℕ) → i < length ks → get_or ks i 0 < get_or ks k 0 → i < k
before-key ks r i k l m = elim (cases_lt i k) [ inl u ↦ u | inr u ↦ absurd (omega (arith, m, rising_le ks r k i u l)) ]

same-key : (ks : List ℕ) → IsRising ks → (i k : ℕ) → i < length ks → k < length ks → get_or ks i 0 ≡ get_or ks k 0
    → i ≡ k
same-key ks r i k l m e = elim (cases_lt i k) [
  | inl u ↦ absurd (omega (arith, r i k u m, e))
  | inr u ↦ elim (cases_lt k i) [ inl w ↦ absurd (omega (arith, r k i w l, e)) | inr w ↦ omega arith ]
]

module _ (v : StoredBlocks) (left below : List (ℕ × ℕ)) (A : List (List ℕ)) (rl : IsRising (keys left))
    (rb : IsRising (keys below))
    (sl : AreSized v.live left) (sb : AreSized v.live below) where
  key : (ls : List (ℕ × ℕ)) (i : ℕ) → i < length ls → get_or (keys ls) i 0 ≡ (get_or ls i (0, 0)).0
  key ls i l = get_or-map (λ s. s.0) ls i (0, 0) 0 l

  count : (ls : List (ℕ × ℕ)) → length (keys ls) ≡ length ls
  count ls = length-map ls (λ s. s.0)

  abbrev IsMatrix : ℕ → ℕ → Type 0
  IsMatrix i k = part left below A (get_or (keys left) i 0) (get_or (keys below) k 0)
      ≡ matrix v (get_or (keys left) i 0) (get_or (keys below) k 0)

  is-corner : (i k : ℕ) (li : i < length left) (lk : k < length below)
      → matrix v (get_or (keys left) i 0) (get_or (keys below) k 0) ≡ matrix v (get_or left i (0, 0)).0
      (get_or below k (0, 0)).0
  is-corner i k li lk = ap₂ (matrix v) (key left i li) (key below k lk)

  is-matrix : (i k : ℕ) → i < length left → k < length below → SameAt v.rows left below A i k → IsMatrix i k
  is-matrix i k li lk h =
      part-window left below A i k rl rb li lk ∙ h
      ∙ sym (is-corner i k li lk ∙ corner-matrix v (get_or left i (0, 0)).0 (get_or below k (0, 0)).0
      (get_or below k (0, 0)).1 (get_or left i (0, 0)).1 (sb k (0, 0) lk).1 (sl i (0, 0) li).1)

  is-same : (i k : ℕ) → i < length left → k < length below → IsMatrix i k → SameAt v.rows left below A i k
  is-same i k li lk h =
      sym (part-window left below A i k rl rb li lk) ∙ h
      ∙ (is-corner i k li lk ∙ corner-matrix v (get_or left i (0, 0)).0 (get_or below k (0, 0)).0
      (get_or below k (0, 0)).1 (get_or left i (0, 0)).1 (sb k (0, 0) lk).1 (sl i (0, 0) li).1)

  -- parts by place, and by cell
  pub by-cells : (p q : ℕ) → has p (keys left) ≡ true → has q (keys below) ≡ true
      → ((i k : ℕ) → i < length left → k < length below → get_or (keys left) i 0 ≡ p → get_or (keys below) k 0 ≡ q
      → SameAt v.rows left below A i k)
      → part left below A p q ≡ matrix v p q
  by-cells p q hp hq f =
      let a = place_of (keys left) p hp in
      let b = place_of (keys below) q hq in
      let la : a.at < length left = omega (arith, a.inside, count left) in
      let lb : b.at < length below = omega (arith, b.inside, count below) in
      ap₂ (part left below A) (sym a.is) (sym b.is) ∙ is-matrix a.at b.at la lb (f a.at b.at la lb a.is b.is)
      ∙ ap₂ (matrix v) a.is b.is

  pub no-other : (j end at : ℕ) → IsEarliest (SameAt v.rows left below A) (length left) j end at → length below ≤ j
      → length left ≤ end → IsJoined v left below A
  no-other j end at h lj le s t hs ht = by-cells s t hs ht (λ i k li lk ei ek. h.before i k (omega arith) (omega arith))

  pub first-other : (j end at : ℕ) → IsEarliest (SameAt v.rows left below A) (length left) j end at → j ≤ length below
      → length below ≤ j → end < length left
      → IsFirstOther v left below A (get_or left end (0, 0)).0 (get_or below at (0, 0)).0
  first-other j end at h lj jl le =
      let la : at < length below = omega (arith, h.inside le) in
      let s : get_or (keys left) end 0 ≡ (get_or left end (0, 0)).0 = key left end le in
      let t : get_or (keys below) at 0 ≡ (get_or below at (0, 0)).0 = key below at la in
      record {
        on_left = key-listed left end le;
        is_below = key-listed below at la;
        other = λ e. h.other le (is-same end at le la (ap₂ (part left below A) s t ∙ e ∙ sym (ap₂ (matrix v) s t)));
        first = λ p q hp hq earlier. by-cells p q hp hq (λ i k li lk ei ek. elim earlier [
          | inl u ↦ h.before i k (before-key (keys left) rl i end (omega (arith, li, count left))
              (omega (arith, ei, s, u))) (omega arith)
          | inr u ↦
              let same : i ≡ end = same-key (keys left) rl i end (omega (arith, li, count left))
              (omega (arith, le, count left)) (ei ∙ u.0 ∙ sym s) in
              subst (λ c. SameAt v.rows left below A c k) (sym same)
              (h.first le k (before-key (keys below) rb k at (omega (arith, lk, count below))
              (omega (arith, ek, t, u.1))))
        ]);
      }
