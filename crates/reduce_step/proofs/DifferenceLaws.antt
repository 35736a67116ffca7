-- Where a block complex differs from a footprint, by kinds of pairs.
use mir.Val.{bool_byte}
use Rattle.std.proofs.Common.{◌≡◌, ◌≢◌, ℕ, zero, suc, ◌<◌, ◌≤◌, Bool, true, false, cond, ◌||◌, ◌&&◌, eqb, List, [], ◌∷◌}
use Rattle.std.proofs.Common.{length, map, take, drop, get_or, Option, Some, None, option_map, MatchOption, refl, sym}
use Rattle.std.proofs.Common.{ap, ap₂, ◌∙◌, subst, arith, ◌⊎◌, inl, inr}
use Rattle.std.specs.Option.{is_some}
use Rattle.std.proofs.lemmas.Bool.{cases_eq, cases_lt, cases_Bool, eq-eqb, ne_eqb, and_parts}
use Rattle.std.proofs.lemmas.List.Elements.{All-get_or, All-from_get_or}
use Rattle.std.proofs.lemmas.List.{get_or-map, get_or-take, length-map, length-take, take-map}
use Rattle.dense_blocks.specs.Blocks.{matrix_of}
use Rattle.dense_blocks.specs.declared.block.Block.{Block}
use Rattle.rising_lists.specs.Rising.{IsRising, has, keys}
use Rattle.rising_lists.proofs.Keyed.{place_of, rising_tail, rising_le, head-absent}
use Rattle.block_complexes.specs.BlockComplexes.{cells, size_of}
use Rattle.block_sparse.specs.StoredBlocks.{StoredBlocks, block_at, matrix, AreLive}
use Rattle.block_sparse.specs.Grids.{width, AreSized, IsJoined, IsFirstOther, segment, part, columns_of}
use Rattle.block_sparse.proofs.GridLaws.{key-listed, map-same}
use Rattle.block_complexes.proofs.LiveLaws.{cell-at, length-cells, of_cell-at}
use Rattle.block_sparse.proofs.Windows.{width-take}
use Rattle.reduce_step.proofs.PartLaws.{row-part, column-part, columns-one}
use Rattle.reduce_step.specs.declared.footprint.Footprint.{Footprint}
use Rattle.reduce_step.specs.Differences.{sources, targets, is_copied, copied_matrix, listed_size, IsSized, IsLiveAs}
use Rattle.reduce_step.specs.Differences.{IsAsCopied, IsBeside, IsSameAt, IsFirstResized, IsResized, IsReached}
use Rattle.reduce_step.specs.Differences.{IsGained, IsBefore, IsEarlier, Found, FoundResized, FoundUnlisted}
use Rattle.reduce_step.proofs.FirstLaws.{not-before, found-either, found-within}

-- a live cell has a coordinate
pub live-size : (live : List (ℕ × ℕ × ℕ)) (c : ℕ) → AreLive live → has c (cells live) ≡ true → 1 ≤ size_of live c
live-size live c are h =
    let p = place_of (cells live) c h in
    let l : p.at < length live = omega (arith, p.inside, length-cells live) in
    omega (
      arith,
      of_cell-at (λ l. l.2) live p.at c are.rising l (sym (cell-at live p.at l) ∙ p.is),
      All-get_or (λ l. 1 ≤ l.2) live p.at (0, 0, 0) l are.sizes,
    )

-- the pair was not copied: nothing has to be as it was copied
pub not-both : {A : Type 0} (b : Bool) → b ≡ true → b ≡ false → A
not-both b e f = let g : true ≡ false = sym e ∙ f in cc

pub and_false : (b : Bool) → (b && false) ≡ false
and_false true = refl
and_false false = refl

pub both-listed : (foot : Footprint) (s t : ℕ) → has s (keys (sources foot)) ≡ true → has t (keys (targets foot)) ≡ true
    → is_copied foot s t ≡ true
both-listed foot s t hs ht = ap₂ (λ a b. a && b) hs ht

pub same-copied : (v : StoredBlocks) (foot : Footprint) (s t : ℕ) → is_copied foot s t ≡ true → IsAsCopied v foot s t
    → IsSameAt v foot s t
same-copied v foot s t e k = record { copied = λ _. k; others = λ f _. not-both (is_copied foot s t) e f }

-- a stretch of the first cells is that of all
segment-take : {T : Type 0} (n : ℕ) (ls : List (ℕ × ℕ)) (xs : List T) (c : ℕ) → has c (keys (take n ls)) ≡ true
    → segment (take n ls) xs c ≡ segment ls xs c
segment-take zero ls xs c h = let e : false ≡ true = h in cc
segment-take (suc n) [] xs c h = refl
segment-take {T} (suc n) (l ∷ ls) xs c h = go (eqb l.0 c) (λ m. segment-take n ls (drop l.1 xs) c m) h
  where
    go : (b : Bool) → (has c (keys (take n ls)) ≡ true → segment (take n ls) (drop l.1 xs) c ≡ segment ls (drop l.1 xs)
        c) → (b || has c (keys (take n ls))) ≡ true
        → cond b (take l.1 xs) (segment (take n ls) (drop l.1 xs) c) ≡ cond b (take l.1 xs) (segment ls (drop l.1 xs) c)
    go true f m = refl
    go false f m = f m

has-take : (n : ℕ) (ls : List (ℕ × ℕ)) (c : ℕ) → has c (keys (take n ls)) ≡ true → has c (keys ls) ≡ true
has-take zero ls c h = let e : false ≡ true = h in cc
has-take (suc n) [] c h = h
has-take (suc n) (l ∷ ls) c h = go (eqb l.0 c) (λ m. has-take n ls c m) h
  where
    go : (b : Bool) → (has c (keys (take n ls)) ≡ true → has c (keys ls) ≡ true) → (b || has c (keys (take n ls)))
        ≡ true → (b || has c (keys ls)) ≡ true
    go true f m = refl
    go false f m = f m

-- the size of a cell among the first listed ones, which are live with their sizes
sized-take : (live : List (ℕ × ℕ × ℕ)) (n : ℕ) (ls : List (ℕ × ℕ)) (c : ℕ) → AreSized live (take n ls)
    → has c (keys (take n ls)) ≡ true → IsSized live c (listed_size ls c)
sized-take live zero ls c s h = let e : false ≡ true = h in cc
sized-take live (suc n) [] c s h = let e : false ≡ true = h in cc
sized-take live (suc n) (l ∷ ls) c s h =
    go (cases_eq l.0 c) (λ m. sized-take live n ls c (λ i d k. s (suc i) d (omega arith)) m) h
  where
    go : (l.0 ≡ c) ⊎ (l.0 ≡ c → ⊥) → (has c (keys (take n ls)) ≡ true → IsSized live c (listed_size ls c))
        → (eqb l.0 c || has c (keys (take n ls))) ≡ true
        → IsSized live c (cond (eqb l.0 c) l.1 (listed_size ls c))
    go (inl e) f m =
        subst (λ b. IsSized live c (cond b l.1 (listed_size ls c))) (sym (eq-eqb l.0 c e))
        (subst (λ k. IsSized live k l.1) e (s 0 (0, 0) (omega arith)))
    go (inr d) f m =
        subst (λ b. IsSized live c (cond b l.1 (listed_size ls c))) (sym (ne_eqb l.0 c d))
        (f (ap (λ b. b || has c (keys (take n ls))) (sym (ne_eqb l.0 c d)) ∙ m))

pub size-at : (ls : List (ℕ × ℕ)) (i : ℕ) → IsRising (keys ls) → i < length ls → listed_size ls (get_or ls i (0, 0)).0
    ≡ (get_or ls i (0, 0)).1
size-at [] i r l = absurd (omega arith)
size-at (x ∷ xs) zero r l = ap (λ b. cond b x.1 (listed_size xs x.0)) (eq-eqb x.0 x.0 refl)
size-at (x ∷ xs) (suc i) r l =
    let apart : x.0 ≢ (get_or xs i (0, 0)).0 = λ e. not-both (has x.0 (keys xs)) (ap (λ k. has k (keys xs)) e
    ∙ key-listed xs i (omega arith)) (head-absent x.0 (keys xs) r) in
    ap (λ b. cond b x.1 (listed_size xs (get_or xs i (0, 0)).0)) (ne_eqb x.0 (get_or xs i (0, 0)).0 apart)
    ∙ size-at xs i (rising_tail x.0 (keys xs) r) (omega arith)

cell-of : (x : ℕ) (ls : List (ℕ × ℕ)) (k : ℕ) → has k (x ∷ keys ls) ≡ true → (x ≡ k) ⊎ (has k (keys ls) ≡ true)
cell-of x ls k h = elim (cases_eq x k) [
  | inl e ↦ inl e
  | inr d ↦
      inr (ap (λ b. b || has k (keys ls)) (sym (ne_eqb x k d)) ∙ h)
]

pub has-first : (x : ℕ) (ks : List ℕ) → has x (x ∷ ks) ≡ true
has-first x ks = ap (λ b. b || has x ks) (eq-eqb x x refl)

pub has-more : (x k : ℕ) (ks : List ℕ) → has k ks ≡ true → has k (x ∷ ks) ≡ true
has-more x k ks h = elim (eqb x k) as (λ b. (b || has k ks) ≡ true) [ true ↦ refl | false ↦ h ]

-- the least of a cell and a rising list of others
pub least-first : (c m : ℕ) (ls : List (ℕ × ℕ)) → IsRising (keys ls) → m ≤ c
    → (0 < length ls → m ≤ (get_or ls 0 (0, 0)).0)
    → (k : ℕ) → has k (c ∷ keys ls) ≡ true → m ≤ k
least-first c m ls r low first k h = elim (cell-of c ls k h) [
  | inl e ↦ omega arith
  | inr i ↦
      let p = place_of (keys ls) k i in
      let l : p.at < length ls = omega (arith, p.inside, length-map ls (λ l. l.0)) in
      let start : 0 < length ls = omega arith in
      omega (
        arith,
        first start,
        get_or-map (λ l. l.0) ls 0 (0, 0) 0 start,
        rising_le (keys ls) r 0 p.at (omega arith)
            p.inside,
        p.is,
      )
]

-- cells that are as listed up to a place of a list
pub each-among : (there all : List ℕ) → ((i : ℕ) → i < length there → has (get_or there i 0) all ≡ true) → (c : ℕ)
    → has c there ≡ true → has c all ≡ true
each-among there all h c m = let p = place_of there c m in subst (λ k. has k all ≡ true) p.is (h p.at p.inside)

pub before-among : (there all : List ℕ) (i : ℕ) → IsRising there → ((j : ℕ) → j < i → has (get_or there j 0) all ≡ true)
    → (c : ℕ) → has c there ≡ true → c < get_or there i 0 → has c all ≡ true
before-among there all i r h c m u =
    let p = place_of there c m in
    elim (cases_lt p.at i) [
      | inl k ↦ subst (λ k. has k all ≡ true) p.is (h p.at k)
      | inr k ↦ absurd (omega (arith, p.is, rising_le there r i p.at k p.inside))
    ]

-- one cell and a rising list of others
module _ (live : List (ℕ × ℕ × ℕ)) (x n : ℕ) (ls : List (ℕ × ℕ)) (rises : IsRising (keys ls))
    (apart : has x (keys ls) ≡ false) where
  abbrev all_cells : List (ℕ × ℕ)
  all_cells = (x, n) ∷ ls

  pub other-cell : (c : ℕ) → has c (keys ls) ≡ true → eqb x c ≡ false
  other-cell c h = elim (cases_eq x c) [
    | inl e ↦ not-both (has x (keys ls)) (ap (λ k. has k (keys ls)) e ∙ h) apart
    | inr d ↦ ne_eqb x c d
  ]

  pub listed-too : (c : ℕ) → has c (keys ls) ≡ true → has c (keys all_cells) ≡ true
  listed-too c h = has-more x c (keys ls) h

  pub listed-one : has x (keys all_cells) ≡ true
  listed-one = has-first x (keys ls)

  pub live-too : (c : ℕ) → has c (keys ls) ≡ true → IsSized live c (listed_size ls c) → IsLiveAs live all_cells c
  live-too c h s = subst (λ b. IsSized live c (cond b n (listed_size ls c))) (sym (other-cell c h)) s

  pub sized-too : (c : ℕ) → has c (keys ls) ≡ true → IsLiveAs live all_cells c → IsSized live c (listed_size ls c)
  sized-too c h s = subst (λ b. IsSized live c (cond b n (listed_size ls c))) (other-cell c h) s

  pub live-one : IsSized live x n → IsLiveAs live all_cells x
  live-one s = subst (λ b. IsSized live x (cond b n (listed_size ls x))) (sym (eq-eqb x x refl)) s

  pub sized-one : IsLiveAs live all_cells x → IsSized live x n
  sized-one s = subst (λ b. IsSized live x (cond b n (listed_size ls x))) (eq-eqb x x refl) s

  pub live-first : (m c : ℕ) → AreSized live (take m ls) → has c (keys (take m ls)) ≡ true → IsLiveAs live all_cells c
  live-first m c s h = live-too c (has-take m ls c h) (sized-take live m ls c s h)

  pub all-sized : ((c : ℕ) → has c (keys ls) ≡ true → IsLiveAs live all_cells c) → AreSized live ls
  all-sized h = All-from_get_or (λ l. IsSized live l.0 l.1) ls (0, 0) (λ i l.
      let c : ℕ = (get_or ls i (0, 0)).0 in
      let m = key-listed ls i l in
      subst (IsSized live c) (size-at ls i rises l) (sized-too c m (h c m)))

  -- the cell after the first ones that are live with their sizes
  not-live : (m : ℕ) → m < length ls → (IsSized live (get_or ls m (0, 0)).0 (get_or ls m (0, 0)).1 → ⊥)
      → IsLiveAs live all_cells (get_or ls m (0, 0)).0 → ⊥
  not-live m l other s =
      other (subst (IsSized live (get_or ls m (0, 0)).0) (size-at ls m rises l)
      (sized-too (get_or ls m (0, 0)).0 (key-listed ls m l) s))

  -- a cell up to which all are live with their sizes is one of those first ones
  pub reached : (m c : ℕ) → (m < length ls → IsSized live (get_or ls m (0, 0)).0 (get_or ls m (0, 0)).1 → ⊥)
      → has c (keys ls) ≡ true
      → ((k : ℕ) → has k (keys all_cells) ≡ true → k ≤ c → IsLiveAs live all_cells k) → has c (keys (take m ls)) ≡ true
  reached m c other h up =
      let p = place_of (keys ls) c h in
      let l : p.at < length ls = omega (arith, p.inside, length-map ls (λ s. s.0)) in
      let is : (get_or ls p.at (0, 0)).0 ≡ c = sym (get_or-map (λ s. s.0) ls p.at (0, 0) 0 l) ∙ p.is in
      elim (cases_lt p.at m) [
        | inl u ↦
            ap (λ k. has k (keys (take m ls))) (sym is ∙ sym (ap (λ z. z.0) (get_or-take m ls p.at (0, 0) u)))
            ∙ key-listed (take m ls) p.at (omega (arith, length-take m ls, u, l))
        | inr u ↦
            let k : m < length ls = omega arith in
            let e : get_or (keys ls) m 0 ≡ (get_or ls m (0, 0)).0 = get_or-map (λ s. s.0) ls m (0, 0) 0 k in
            absurd (not-live m k (other k)
            (up (get_or ls m (0, 0)).0 (listed-too (get_or ls m (0, 0)).0 (key-listed ls m k))
            (omega (arith, e, p.is, rising_le (keys ls) rises m p.at (omega arith) p.inside))))
      ]

  -- the first cell that is not live with its size
  module _ (m : ℕ) (within : m ≤ length ls) (sized : AreSized live (take m ls)) (other : m < length ls
      → IsSized live (get_or ls m (0, 0)).0 (get_or ls m (0, 0)).1 → ⊥) where
    before-first : (c k : ℕ) → has k (keys ls) ≡ true → (m < length ls → k < (get_or ls m (0, 0)).0)
        → IsLiveAs live all_cells k
    before-first c k h l =
        let p = place_of (keys ls) k h in
        let i : p.at < length ls = omega (arith, p.inside, length-map ls (λ s. s.0)) in
        let is : (get_or ls p.at (0, 0)).0 ≡ k = sym (get_or-map (λ s. s.0) ls p.at (0, 0) 0 i) ∙ p.is in
        elim (cases_lt p.at m) [
          | inl u ↦ live-first m k sized
              (ap (λ k. has k (keys (take m ls))) (sym is ∙ sym (ap (λ z. z.0) (get_or-take m ls p.at (0, 0) u)))
              ∙ key-listed (take m ls) p.at (omega (arith, length-take m ls, u, i)))
          | inr u ↦
              let j : m < length ls = omega arith in
              let e : get_or (keys ls) m 0 ≡ (get_or ls m (0, 0)).0 = get_or-map (λ s. s.0) ls m (0, 0) 0 j in
              absurd (omega (arith, e, l j, p.is, rising_le (keys ls) rises m p.at (omega arith) p.inside))
        ]

    pub first-later : m < length ls → (IsSized live x n ⊎ ((get_or ls m (0, 0)).0 < x))
        → IsFirstResized live all_cells (get_or ls m (0, 0)).0
    first-later l one =
        let c : ℕ = (get_or ls m (0, 0)).0 in
        record {
          is_listed = listed-too c (key-listed ls m l);
          is_not = not-live m l (other l);
          first = λ k h u. elim (cell-of x ls k h) [
            | inl e ↦ elim one [
              | inl s ↦ subst (IsLiveAs live all_cells) e (live-one s)
              | inr w ↦ absurd (omega arith)
            ]
            | inr i ↦ before-first c k i (λ _. u)
          ];
        }

    pub first-one : (IsSized live x n → ⊥) → (m < length ls → x ≤ (get_or ls m (0, 0)).0)
        → IsFirstResized live all_cells x
    first-one s l = record {
      is_listed = listed-one;
      is_not = λ h. s (sized-one h);
      first = λ k h u. elim (cell-of x ls k h) [
        | inl e ↦ absurd (omega arith)
        | inr i ↦ before-first x k i (λ j. omega (arith, l j))
      ];
    }

    pub first-none : IsSized live x n → (m < length ls → ⊥) → (k : ℕ) → has k (keys all_cells) ≡ true
        → IsLiveAs live all_cells k
    first-none s none k h = elim (cell-of x ls k h) [
      | inl e ↦ subst (IsLiveAs live all_cells) e (live-one s)
      | inr i ↦ before-first x k i (λ j. absurd (none j))
    ]

segments-take : {T : Type 0} (m : ℕ) (ls : List (ℕ × ℕ)) (A : List (List T)) (c : ℕ) → has c (keys (take m ls)) ≡ true
    → map (λ row. segment (take m ls) row c) A ≡ map (λ row. segment ls row c) A
segments-take m ls A c h = map-same (λ row. segment (take m ls) row c) (λ row. segment ls row c)
    (λ row. segment-take m ls row c h) A

-- of a list of one cell nothing, or that cell
pub one-of : (c q : ℕ) → has q (c ∷ []) ≡ true → c ≡ q
one-of c q h = elim (cases_eq c q) [
  | inl e ↦ e
  | inr d ↦ let e : false ≡ true = sym (ap (λ b. b || false) (ne_eqb c q d)) ∙ h in cc
]

taken-one : (k c n q : ℕ) → has q (keys (take k ((c, n) ∷ []))) ≡ true → (0 < k)
    × (take {A = ℕ × ℕ} k ((c, n) ∷ []) ≡ (c, n) ∷ []) × (c ≡ q)
taken-one zero c n q h = let e : false ≡ true = h in cc
taken-one (suc zero) c n q h = (omega arith, refl, one-of c q h)
taken-one (suc (suc k)) c n q h = (omega arith, refl, one-of c q h)

-- the first of the listed cells rise
pub rising-take : (n : ℕ) (ls : List (ℕ × ℕ)) → IsRising (keys ls) → IsRising (keys (take n ls))
rising-take n ls r = subst IsRising (take-map (λ l. l.0) n ls) (λ i j u l.
    let inside : (j < n) × (j < length (keys ls)) =
    (omega (arith, length-take n (keys ls)), omega (arith, length-take n (keys ls))) in
    omega (
      arith,
      r i j u inside.1,
      get_or-take n (keys ls) i 0 (omega (arith, inside.0)),
      get_or-take n (keys ls) j 0 inside.0,
    ))

-- one cell is counted where it is live with its size
pub counted-one : (b : Bool) (k : ℕ) (P : Type 0) → k ≡ bool_byte b → (b ≡ true → P) × (P → b ≡ true) → (0 < k → P)
    × (P → 0 < k)
counted-one true k P e d = (λ l. d.0 refl, λ p. omega arith)
counted-one false k P e d = (λ l. absurd (omega arith), λ p. let f : false ≡ true = d.1 p in cc)

pub taken-rises_as : (n : ℕ) (ls all : List (ℕ × ℕ)) → ls ≡ all → IsRising (keys all) → IsRising (keys (take n ls))
taken-rises_as n ls all e r = subst (λ ls. IsRising (keys (take n ls))) (sym e) (rising-take n all r)

pub taken-width_as : (n m : ℕ) (ls all : List (ℕ × ℕ)) → ls ≡ all → m ≡ width all → width (take n ls) ≤ m
taken-width_as n m ls all e w = subst (λ ls. width (take n ls) ≤ m) (sym e) (omega (arith, width-take all n))

-- a list of one cell, as far as that is live with a size
module _ (live : List (ℕ × ℕ × ℕ)) (k c n : ℕ) where
  pub taken-same : (0 < k → IsSized live c n) → take {A = ℕ × ℕ} k ((c, size_of live c) ∷ []) ≡ take k ((c, n) ∷ [])
  taken-same h = elim (cases_lt 0 k) [
    | inl l ↦ ap (λ m. take k ((c, m) ∷ [])) (h l).1
    | inr l ↦
        let none : k ≡ 0 = omega arith in
        ap (λ k. take k ((c, size_of live c) ∷ [])) none ∙ sym (ap (λ k. take k ((c, n) ∷ [])) none)
  ]

module _ (v : StoredBlocks) (foot : Footprint) where
  abbrev Same : ℕ → ℕ → Type 0
  Same = IsSameAt v foot

  pub copied-at : (s t : ℕ) (a b : Bool) → eqb s foot.x ≡ a → eqb t foot.y ≡ b
      → copied_matrix foot s t ≡ cond a (cond b (matrix_of foot.pivot) (segment foot.below (matrix_of foot.column) t))
      (cond b (columns_of foot.left (matrix_of foot.row) s) (part foot.left foot.below (matrix_of foot.corners) s t))
  copied-at s t a b e f =
      ap₂ (λ a b. cond a (cond b (matrix_of foot.pivot) (segment foot.below (matrix_of foot.column) t))
      (cond b (columns_of foot.left (matrix_of foot.row) s) (part foot.left foot.below (matrix_of foot.corners) s t))) e
      f

  pub not_x : (s : ℕ) → has s (keys foot.left) ≡ true → eqb s foot.x ≡ false
  not_x s h = elim (cases_eq s foot.x) [
    | inl e ↦ not-both (has s (keys foot.left)) h (ap (λ k. has k (keys foot.left)) e ∙ foot.parts.without_x)
    | inr d ↦ ne_eqb s foot.x d
  ]

  pub not_y : (t : ℕ) → has t (keys foot.below) ≡ true → eqb t foot.y ≡ false
  not_y t h = elim (cases_eq t foot.y) [
    | inl e ↦ not-both (has t (keys foot.below)) h (ap (λ k. has k (keys foot.below)) e ∙ foot.parts.without_y)
    | inr d ↦ ne_eqb t foot.y d
  ]

  -- the first other part of a joined matrix is the first difference among its pairs
  pub record Lies (ls bs : List (ℕ × ℕ)) (A : List (List ℕ)) (s t : ℕ) : Type 0 where
    pub copied : is_copied foot s t ≡ true
    pub from : IsLiveAs v.live (sources foot) s
    pub to : IsLiveAs v.live (targets foot) t
    pub part_is : part ls bs A s t ≡ copied_matrix foot s t

  abbrev Within : List (ℕ × ℕ) → List (ℕ × ℕ) → ℕ → ℕ → Type 0
  Within ls bs s t = (has s (keys ls) ≡ true) × (has t (keys bs) ≡ true)

  pub found-joined : (ls bs : List (ℕ × ℕ)) (A : List (List ℕ)) (o : Option (ℕ × ℕ))
      → MatchOption o (IsJoined v ls bs A) (λ p. IsFirstOther v ls bs A p.0 p.1)
      → ((s t : ℕ) → has s (keys ls) ≡ true → has t (keys bs) ≡ true → Lies ls bs A s t) → Found Same (Within ls bs) o
  found-joined ls bs A o found lies = go o found
    where
      same : (s t : ℕ) → Lies ls bs A s t → part ls bs A s t ≡ matrix v s t → Same s t
      same s t h e = same-copied v foot s t h.copied
          (record { from = h.from; to = h.to; matrix_is = sym e ∙ h.part_is })

      go : (o : Option (ℕ × ℕ)) → MatchOption o (IsJoined v ls bs A) (λ p. IsFirstOther v ls bs A p.0 p.1)
          → Found Same (Within ls bs) o
      go None joined = λ s t w. same s t (lies s t w.0 w.1) (joined s t w.0 w.1)
      go (Some p) other =
          let h = lies p.0 p.1 other.on_left other.is_below in (
            λ e. other.other (h.part_is ∙ sym (e.copied h.copied).matrix_is),
            λ s t w l. same s t (lies s t w.0 w.1) (other.first s t w.0 w.1 l),
          )

  -- the lists as far as they are live with their sizes
  module _ (m n : ℕ) (sl : AreSized v.live (take m foot.left)) (sb : AreSized v.live (take n foot.below)) where
    from-left : (s : ℕ) → has s (keys (take m foot.left)) ≡ true → IsLiveAs v.live (sources foot) s
    from-left s h = live-first v.live foot.x foot.pivot.cols foot.left foot.parts.left_rises foot.parts.without_x m s sl
        h

    to-below : (t : ℕ) → has t (keys (take n foot.below)) ≡ true → IsLiveAs v.live (targets foot) t
    to-below t h = live-first v.live foot.y foot.pivot.rows foot.below foot.parts.below_rises foot.parts.without_y n t
        sb h

    source : (s : ℕ) → has s (keys (take m foot.left)) ≡ true → has s (keys (sources foot)) ≡ true
    source s h = listed-too v.live foot.x foot.pivot.cols foot.left foot.parts.left_rises foot.parts.without_x s
        (has-take m foot.left s h)

    target : (t : ℕ) → has t (keys (take n foot.below)) ≡ true → has t (keys (targets foot)) ≡ true
    target t h = listed-too v.live foot.y foot.pivot.rows foot.below foot.parts.below_rises foot.parts.without_y t
        (has-take n foot.below t h)

    pub lies-corner : (s t : ℕ) → has s (keys (take m foot.left)) ≡ true → has t (keys (take n foot.below)) ≡ true
        → Lies (take m foot.left) (take n foot.below) (matrix_of foot.corners) s t
    lies-corner s t hs ht = record {
      copied = both-listed foot s t (source s hs) (target t ht);
      from = from-left s hs;
      to = to-below t ht;
      part_is =
          ap (map (λ row. segment (take m foot.left) row s)) (segment-take n foot.below (matrix_of foot.corners) t ht)
          ∙ segments-take m foot.left (segment foot.below (matrix_of foot.corners) t) s hs
          ∙ sym (copied-at s t false false (not_x s (has-take m foot.left s hs))
          (not_y t (has-take n foot.below t ht)));
    }

    pub lies-row : (k : ℕ) → (0 < k → IsSized v.live foot.y foot.pivot.rows) → (s t : ℕ)
        → has s (keys (take m foot.left)) ≡ true → has t (keys (take k ((foot.y, foot.pivot.rows) ∷ []))) ≡ true
        → Lies (take m foot.left) (take k ((foot.y, foot.pivot.rows) ∷ [])) (matrix_of foot.row) s t
    lies-row k sized s t hs ht =
        let one = taken-one k foot.y foot.pivot.rows t ht in
        subst (λ ts. Lies (take m foot.left) ts (matrix_of foot.row) s t) (sym one.1)
        (subst (Lies (take m foot.left) ((foot.y, foot.pivot.rows) ∷ []) (matrix_of foot.row) s) one.2 (record {
          copied = both-listed foot s foot.y (source s hs)
              (listed-one v.live foot.y foot.pivot.rows foot.below foot.parts.below_rises foot.parts.without_y);
          from = from-left s hs;
          to = live-one v.live foot.y foot.pivot.rows foot.below foot.parts.below_rises foot.parts.without_y
              (sized one.0);
          part_is =
              row-part (take m foot.left) foot.y foot.pivot.rows foot.row s foot.parts.row_rows
              ∙ segments-take m foot.left (matrix_of foot.row) s hs
              ∙ sym (copied-at s foot.y false true (not_x s (has-take m foot.left s hs)) (eq-eqb foot.y foot.y refl));
        }))

    pub lies-column : (k : ℕ) → (0 < k → IsSized v.live foot.x foot.pivot.cols) → (s t : ℕ)
        → has s (keys (take k ((foot.x, foot.pivot.cols) ∷ []))) ≡ true → has t (keys (take n foot.below)) ≡ true
        → Lies (take k ((foot.x, foot.pivot.cols) ∷ [])) (take n foot.below) (matrix_of foot.column) s t
    lies-column k sized s t hs ht =
        let one = taken-one k foot.x foot.pivot.cols s hs in
        subst (λ ss. Lies ss (take n foot.below) (matrix_of foot.column) s t) (sym one.1)
        (subst (λ c. Lies ((foot.x, foot.pivot.cols) ∷ []) (take n foot.below) (matrix_of foot.column) c t) one.2
        (record {
          copied = both-listed foot foot.x t (listed-one v.live foot.x foot.pivot.cols foot.left foot.parts.left_rises
              foot.parts.without_x) (target t ht);
          from = live-one v.live foot.x foot.pivot.cols foot.left foot.parts.left_rises foot.parts.without_x
              (sized one.0);
          to = to-below t ht;
          part_is =
              column-part foot.x foot.pivot.cols (take n foot.below) foot.column t foot.parts.column_cols
              ∙ segment-take n foot.below (matrix_of foot.column) t ht
              ∙ sym (copied-at foot.x t true false (eq-eqb foot.x foot.x refl) (not_y t (has-take n foot.below t ht)));
        }))

    pub lies-pivot : (j k : ℕ) → (0 < j → IsSized v.live foot.x foot.pivot.cols)
        → (0 < k → IsSized v.live foot.y foot.pivot.rows)
        → (s t : ℕ) → has s (keys (take j ((foot.x, foot.pivot.cols) ∷ []))) ≡ true
        → has t (keys (take k ((foot.y, foot.pivot.rows) ∷ []))) ≡ true
        → Lies (take j ((foot.x, foot.pivot.cols) ∷ [])) (take k ((foot.y, foot.pivot.rows) ∷ []))
        (matrix_of foot.pivot) s t
    lies-pivot j k from to s t hs ht =
        let X = taken-one j foot.x foot.pivot.cols s hs in
        let Y = taken-one k foot.y foot.pivot.rows t ht in
        subst (λ ss. Lies ss (take k ((foot.y, foot.pivot.rows) ∷ [])) (matrix_of foot.pivot) s t) (sym X.1)
        (subst (λ ts. Lies ((foot.x, foot.pivot.cols) ∷ []) ts (matrix_of foot.pivot) s t) (sym Y.1)
        (subst (λ c. Lies ((foot.x, foot.pivot.cols) ∷ []) ((foot.y, foot.pivot.rows) ∷ []) (matrix_of foot.pivot) c t)
        X.2
        (subst (Lies ((foot.x, foot.pivot.cols) ∷ []) ((foot.y, foot.pivot.rows) ∷ []) (matrix_of foot.pivot) foot.x)
        Y.2 (record {
          copied = both-listed foot foot.x foot.y
              (listed-one v.live foot.x foot.pivot.cols foot.left foot.parts.left_rises foot.parts.without_x)
              (listed-one v.live foot.y foot.pivot.rows foot.below foot.parts.below_rises foot.parts.without_y);
          from = live-one v.live foot.x foot.pivot.cols foot.left foot.parts.left_rises foot.parts.without_x (from X.0);
          to = live-one v.live foot.y foot.pivot.rows foot.below foot.parts.below_rises foot.parts.without_y (to Y.0);
          part_is =
              row-part ((foot.x, foot.pivot.cols) ∷ []) foot.y foot.pivot.rows foot.pivot foot.x refl
              ∙ columns-one foot.x foot.pivot.cols foot.pivot refl
              ∙ sym (copied-at foot.x foot.y true true (eq-eqb foot.x foot.x refl) (eq-eqb foot.y foot.y refl));
        }))))

  -- the pairs that were copied and whose cells are reached lie in one of the four
  abbrev Four : ℕ → ℕ → ℕ → ℕ → ℕ → ℕ → Type 0
  Four j k m n s t =
      (Within (take j ((foot.x, foot.pivot.cols) ∷ [])) (take k ((foot.y, foot.pivot.rows) ∷ [])) s t
      ⊎ Within (take j ((foot.x, foot.pivot.cols) ∷ [])) (take n foot.below) s t)
      ⊎ (Within (take m foot.left) (take k ((foot.y, foot.pivot.rows) ∷ [])) s t
      ⊎ Within (take m foot.left) (take n foot.below) s t)

  split : (s t : ℕ) → is_copied foot s t ≡ true → (has s (keys (sources foot)) ≡ true)
      × (has t (keys (targets foot)) ≡ true)
  split s t h = and_parts (has s (keys (sources foot))) (has t (keys (targets foot))) h

  one-taken : (k c n : ℕ) → 0 < k → has c (keys (take k ((c, n) ∷ []))) ≡ true
  one-taken zero c n h = absurd (omega arith)
  one-taken (suc k) c n h = ap (λ b. b || has c (keys (take k []))) (eq-eqb c c refl)

  pub reach-four : (j k m n : ℕ) → (IsSized v.live foot.x foot.pivot.cols → 0 < j)
      → (IsSized v.live foot.y foot.pivot.rows → 0 < k)
      → (m < length foot.left → IsSized v.live (get_or foot.left m (0, 0)).0 (get_or foot.left m (0, 0)).1 → ⊥)
      → (n < length foot.below → IsSized v.live (get_or foot.below n (0, 0)).0 (get_or foot.below n (0, 0)).1 → ⊥)
      → (s t : ℕ) → IsReached v foot s t → Four j k m n s t
  reach-four j k m n x y l b s t h =
      let has_both = split s t h.copied in
      let from : (has s (keys (take j ((foot.x, foot.pivot.cols) ∷ []))) ≡ true)
      ⊎ (has s (keys (take m foot.left)) ≡ true) =
      elim (cell-of foot.x foot.left s has_both.0) [
        | inl e ↦ inl (subst (λ c. has c (keys (take j ((foot.x, foot.pivot.cols) ∷ []))) ≡ true) e
            (one-taken j foot.x foot.pivot.cols
            (x (sized-one v.live foot.x foot.pivot.cols foot.left foot.parts.left_rises foot.parts.without_x
            (subst (IsLiveAs v.live (sources foot)) (sym e) (h.from s has_both.0 (omega arith)))))))
        | inr i ↦ inr (reached v.live foot.x foot.pivot.cols foot.left foot.parts.left_rises foot.parts.without_x m s l
            i h.from)
      ] in
      let to : (has t (keys (take k ((foot.y, foot.pivot.rows) ∷ []))) ≡ true)
      ⊎ (has t (keys (take n foot.below)) ≡ true) =
      elim (cell-of foot.y foot.below t has_both.1) [
        | inl e ↦ inl (subst (λ c. has c (keys (take k ((foot.y, foot.pivot.rows) ∷ []))) ≡ true) e
            (one-taken k foot.y foot.pivot.rows
            (y (sized-one v.live foot.y foot.pivot.rows foot.below foot.parts.below_rises foot.parts.without_y
            (subst (IsLiveAs v.live (targets foot)) (sym e) (h.to t has_both.1 (omega arith)))))))
        | inr i ↦ inr (reached v.live foot.y foot.pivot.rows foot.below foot.parts.below_rises foot.parts.without_y n t
            b i h.to)
      ] in
      elim from [
        | inl a ↦ elim to [ inl c ↦ inl (inl (a, c)) | inr c ↦ inl (inr (a, c)) ]
        | inr a ↦ elim to [ inl c ↦ inr (inl (a, c)) | inr c ↦ inr (inr (a, c)) ]
      ]

  -- what the search for another part of a joined matrix gives
  abbrev pub Searched : List (ℕ × ℕ) → List (ℕ × ℕ) → Block → Option (ℕ × ℕ) → Type 0
  Searched ls bs b o = MatchOption o (IsJoined v ls bs (matrix_of b)) (λ p. IsFirstOther v ls bs (matrix_of b) p.0 p.1)

  -- how many of the cells of each list, and of x and y, are live with their sizes
  pub record AreCounted (j k m n : ℕ) : Type 0 where
    pub x_in : 0 < j → IsSized v.live foot.x foot.pivot.cols
    pub x_out : IsSized v.live foot.x foot.pivot.cols → 0 < j
    pub y_in : 0 < k → IsSized v.live foot.y foot.pivot.rows
    pub y_out : IsSized v.live foot.y foot.pivot.rows → 0 < k
    pub left_in : AreSized v.live (take m foot.left)
    pub left_out : m < length foot.left → IsSized v.live (get_or foot.left m (0, 0)).0 (get_or foot.left m (0, 0)).1 → ⊥
    pub below_in : AreSized v.live (take n foot.below)
    pub below_out : n < length foot.below → IsSized v.live (get_or foot.below n (0, 0)).0 (get_or foot.below n (0, 0)).1
        → ⊥

  -- the first of the other parts of the four joined matrices
  pub found-changed : (j k m n : ℕ) → AreCounted j k m n → (pivot column row corner one two all : Option (ℕ × ℕ))
      → Searched (take j ((foot.x, foot.pivot.cols) ∷ [])) (take k ((foot.y, foot.pivot.rows) ∷ [])) foot.pivot pivot
      → Searched (take j ((foot.x, foot.pivot.cols) ∷ [])) (take n foot.below) foot.column column
      → Searched (take m foot.left) (take k ((foot.y, foot.pivot.rows) ∷ [])) foot.row row
      → Searched (take m foot.left) (take n foot.below) foot.corners corner
      → IsEarlier pivot column one → IsEarlier row corner two → IsEarlier one two all
      → Found Same (IsReached v foot) all
  found-changed j k m n are pivot column row corner one two all in_pivot in_column in_row in_corner e f g =
      let xs : List (ℕ × ℕ) = take j ((foot.x, foot.pivot.cols) ∷ []) in
      let ys : List (ℕ × ℕ) = take k ((foot.y, foot.pivot.rows) ∷ []) in
      let ls : List (ℕ × ℕ) = take m foot.left in
      let bs : List (ℕ × ℕ) = take n foot.below in
      found-within Same (Four j k m n) (IsReached v foot) all
      (reach-four j k m n are.x_out are.y_out are.left_out are.below_out)
      (found-either Same (λ s t. Within xs ys s t ⊎ Within xs bs s t) (λ s t. Within ls ys s t ⊎ Within ls bs s t) one
      two all g
      (found-either Same (Within xs ys) (Within xs bs) pivot column one e
      (found-joined xs ys (matrix_of foot.pivot) pivot in_pivot
      (lies-pivot m n are.left_in are.below_in j k are.x_in are.y_in))
      (found-joined xs bs (matrix_of foot.column) column in_column
      (lies-column m n are.left_in are.below_in j are.x_in)))
      (found-either Same (Within ls ys) (Within ls bs) row corner two f
      (found-joined ls ys (matrix_of foot.row) row in_row (lies-row m n are.left_in are.below_in k are.y_in))
      (found-joined ls bs (matrix_of foot.corners) corner in_corner (lies-corner m n are.left_in are.below_in))))

  -- pairs with a cell that is not live with its size
  found-resized_from : (o : Option ℕ) (t : ℕ) (r : Option (ℕ × ℕ)) → FoundResized v.live (sources foot) o
      → has t (keys (targets foot)) ≡ true → ((k : ℕ) → has k (keys (targets foot)) ≡ true → t ≤ k)
      → r ≡ option_map (λ s. (s, t)) o
      → Found Same (λ s t. (is_copied foot s t ≡ true) × (IsLiveAs v.live (sources foot) s → ⊥)) r
  found-resized_from o t r f ht low e =
      subst (Found Same (λ s t. (is_copied foot s t ≡ true) × (IsLiveAs v.live (sources foot) s → ⊥))) (sym e) (go o f)
    where
      go : (o : Option ℕ) → FoundResized v.live (sources foot) o
          → Found Same (λ s t. (is_copied foot s t ≡ true) × (IsLiveAs v.live (sources foot) s → ⊥))
          (option_map (λ s. (s, t)) o)
      go None all = λ p q h. absurd (h.1 (all p (split p q h.0).0))
      go (Some s) first = (
        λ same. first.is_not (same.copied (both-listed foot s t first.is_listed ht)).from,
        λ p q h l. elim (cases_lt p s) [
          | inl u ↦ absurd (h.1 (first.first p (split p q h.0).0 u))
          | inr u ↦ absurd (not-before p q s t u (low q (split p q h.0).1) l)
        ],
      )

  found-resized_to : (o : Option ℕ) (s : ℕ) (r : Option (ℕ × ℕ)) → FoundResized v.live (targets foot) o
      → has s (keys (sources foot)) ≡ true → ((k : ℕ) → has k (keys (sources foot)) ≡ true → s ≤ k)
      → r ≡ option_map (λ t. (s, t)) o
      → Found Same (λ s t. (is_copied foot s t ≡ true) × (IsLiveAs v.live (targets foot) t → ⊥)) r
  found-resized_to o s r f hs low e =
      subst (Found Same (λ s t. (is_copied foot s t ≡ true) × (IsLiveAs v.live (targets foot) t → ⊥))) (sym e) (go o f)
    where
      go : (o : Option ℕ) → FoundResized v.live (targets foot) o
          → Found Same (λ s t. (is_copied foot s t ≡ true) × (IsLiveAs v.live (targets foot) t → ⊥))
          (option_map (λ t. (s, t)) o)
      go None all = λ p q h. absurd (h.1 (all q (split p q h.0).1))
      go (Some t) first = (
        λ same. first.is_not (same.copied (both-listed foot s t hs first.is_listed)).to,
        λ p q h l. elim (cases_lt q t) [
          | inl u ↦ absurd (h.1 (first.first q (split p q h.0).1 u))
          | inr u ↦ absurd (not-before p q s t (low p (split p q h.0).0) u l)
        ],
      )

  -- the first pair that was copied and has a cell that is not live with its size
  pub found-resized : (left below : List (ℕ × ℕ)) → left ≡ foot.left → below ≡ foot.below → (from to : Option ℕ)
      → FoundResized v.live ((foot.x, foot.pivot.cols) ∷ left) from
      → FoundResized v.live ((foot.y, foot.pivot.rows) ∷ below) to → (s t : ℕ) → has s (foot.x ∷ keys left) ≡ true
      → ((k : ℕ) → has k (foot.x ∷ keys left) ≡ true → s ≤ k)
      → has t (foot.y ∷ keys below) ≡ true → ((k : ℕ) → has k (foot.y ∷ keys below) ≡ true → t ≤ k)
      → (p q r : Option (ℕ × ℕ))
      → p ≡ option_map (λ s. (s, t)) from → q ≡ option_map (λ t. (s, t)) to → IsEarlier p q r
      → Found Same (IsResized v foot) r
  found-resized left below is_left is_below from to f g s t hs low ht high p q r e h i =
      let From : ℕ → ℕ → Type 0 = λ s t. (is_copied foot s t ≡ true) × (IsLiveAs v.live (sources foot) s → ⊥) in
      let To : ℕ → ℕ → Type 0 = λ s t. (is_copied foot s t ≡ true) × (IsLiveAs v.live (targets foot) t → ⊥) in
      found-within Same (λ s t. From s t ⊎ To s t) (IsResized v foot) r
      (λ s t h. elim h.1 [ inl a ↦ inl (h.0, a) | inr b ↦ inr (h.0, b) ])
      (found-either Same From To p q r i
      (found-resized_from from t p (subst (λ ls. FoundResized v.live ((foot.x, foot.pivot.cols) ∷ ls) from) is_left f)
      (ap (λ ls. has t (foot.y ∷ keys ls)) (sym is_below) ∙ ht)
      (λ k m. high k (ap (λ ls. has k (foot.y ∷ keys ls)) is_below ∙ m)) e)
      (found-resized_to to s q (subst (λ ls. FoundResized v.live ((foot.y, foot.pivot.rows) ∷ ls) to) is_below g)
      (ap (λ ls. has s (foot.x ∷ keys ls)) (sym is_left) ∙ hs)
      (λ k m. low k (ap (λ ls. has k (foot.x ∷ keys ls)) is_left ∙ m)) h))

  cases_sized : (c n : ℕ) → IsSized v.live c n ⊎ (IsSized v.live c n → ⊥)
  cases_sized c n = elim (cases_Bool (has c (cells v.live))) [
    | inr e ↦ inr (λ h. not-both (has c (cells v.live)) h.0 e)
    | inl e ↦ elim (cases_eq (size_of v.live c) n) [ inl f ↦ inl (e, f) | inr d ↦ inr (λ h. d h.1) ]
  ]

  -- each pair is resized, reached, gained, or of no interest
  pub all-pairs : (s t : ℕ) → ((p q : ℕ) → (IsResized v foot p q ⊎ IsReached v foot p q) ⊎ IsGained v foot p q
      → (IsBefore s t p q → ⊥) → Same p q) → Same s t
  all-pairs s t h = elim (cases_Bool (is_copied foot s t)) [
    | inr e ↦ record {
      copied = λ f. not-both (is_copied foot s t) f e;
      others = λ _ beside. (h s t (inr (e, beside)) (not-before s t s t (omega arith) (omega arith))).others e beside;
    }
    | inl e ↦
        let both = split s t e in
        h s t (inl (inr (record {
          copied = e;
          from = λ k m u. elim (cases_sized k (listed_size (sources foot) k)) [
            | inl live ↦ live
            | inr not ↦
                let c = both-listed foot k t m both.1 in
                ((h k t (inl (inl (c, inl not))) (not-before s t k t u (omega arith))).copied c).from
          ];
          to = λ k m u. elim (cases_sized k (listed_size (targets foot) k)) [
            | inl live ↦ live
            | inr not ↦
                let c = both-listed foot s k both.0 m in
                ((h s k (inl (inl (c, inr not))) (not-before s t s k (omega arith) u)).copied c).to
          ];
        }))) (not-before s t s t (omega arith) (omega arith))
  ]

  -- nothing stands at a pair that was not copied, if each block beside it was
  not-gained : (s t : ℕ) → is_copied foot s t ≡ false → (is_some (block_at v s t) ≡ true → is_copied foot s t ≡ true)
      → Same s t
  not-gained s t e h = record {
    copied = λ f. not-both (is_copied foot s t) f e;
    others = λ _ _. elim (cases_Bool (is_some (block_at v s t))) [
      | inl f ↦ not-both (is_copied foot s t) (h f) e
      | inr f ↦ f
    ];
  }

  gained : (s t : ℕ) → is_copied foot s t ≡ false → IsBeside v foot s t → is_some (block_at v s t) ≡ true → Same s t → ⊥
  gained s t e beside h same = not-both (is_some (block_at v s t)) h (same.others e beside)

  -- pairs with y, and pairs with x, that were not copied
  abbrev pub Beside_y : ℕ → ℕ → Type 0
  Beside_y s t = (is_copied foot s t ≡ false) × (t ≡ foot.y)

  abbrev pub Beside_x : ℕ → ℕ → Type 0
  Beside_x s t = (is_copied foot s t ≡ false) × (s ≡ foot.x)

  -- blocks beside x and y that were not copied
  module _ (x_live : has foot.x (cells v.live) ≡ true) (y_live : has foot.y (cells v.live) ≡ true) where
    found-gained_from : (there : List ℕ) (o : Option ℕ) (r : Option (ℕ × ℕ))
        → ((s : ℕ) → has s there ≡ is_some (block_at v s foot.y))
        → FoundUnlisted there (keys (sources foot)) o
        → r ≡ option_map (λ s. (s, foot.y)) o → Found Same Beside_y r
    found-gained_from there o r are f e = subst (Found Same Beside_y) (sym e) (go o f)
      where
        same : (s t : ℕ) → Beside_y s t → (has s there ≡ true → has s (keys (sources foot)) ≡ true) → Same s t
        same s t h listed = not-gained s t h.0 (λ f.
            both-listed foot s t (listed (are s ∙ ap (λ t. is_some (block_at v s t)) (sym h.1) ∙ f))
            (ap (λ t. has t (keys (targets foot))) h.1 ∙ listed-one v.live foot.y foot.pivot.rows foot.below
            foot.parts.below_rises foot.parts.without_y))

        go : (o : Option ℕ) → FoundUnlisted there (keys (sources foot)) o
            → Found Same Beside_y (option_map (λ s. (s, foot.y)) o)
        go None all = λ s t h. same s t h (all s)
        go (Some c) first = (
          gained c foot.y (ap (λ b. b && has foot.y (keys (targets foot))) first.1)
              (record { from = x_live; to = y_live; beside = inr refl }) (sym (are c) ∙ first.0),
          λ s t h l. same s t h (λ m. first.2 s m (elim l [ inl u ↦ u | inr u ↦ absurd (omega (arith, u.1, h.1)) ])),
        )

    found-gained_to : (there : List ℕ) (o : Option ℕ) (r : Option (ℕ × ℕ))
        → ((t : ℕ) → has t there ≡ is_some (block_at v foot.x t))
        → FoundUnlisted there (keys (targets foot)) o
        → r ≡ option_map (λ t. (foot.x, t)) o → Found Same Beside_x r
    found-gained_to there o r are f e = subst (Found Same Beside_x) (sym e) (go o f)
      where
        same : (s t : ℕ) → Beside_x s t → (has t there ≡ true → has t (keys (targets foot)) ≡ true) → Same s t
        same s t h listed = not-gained s t h.0 (λ f.
            both-listed foot s t
            (ap (λ s. has s (keys (sources foot))) h.1 ∙ listed-one v.live foot.x foot.pivot.cols foot.left
            foot.parts.left_rises foot.parts.without_x)
            (listed (are t ∙ ap (λ s. is_some (block_at v s t)) (sym h.1) ∙ f)))

        go : (o : Option ℕ) → FoundUnlisted there (keys (targets foot)) o
            → Found Same Beside_x (option_map (λ t. (foot.x, t)) o)
        go None all = λ s t h. same s t h (all t)
        go (Some c) first = (
          gained foot.x c (ap (λ b. has foot.x (keys (sources foot)) && b) first.1
              ∙ and_false (has foot.x (keys (sources foot)))) (record { from = x_live; to = y_live; beside = inl refl })
              (sym (are c) ∙ first.0),
          λ s t h l. same s t h (λ m. first.2 t m (elim l [ inl u ↦ absurd (omega (arith, u, h.1)) | inr u ↦ u.1 ])),
        )

    -- the first of them
    pub found-gained : (left below : List (ℕ × ℕ)) → left ≡ foot.left → below ≡ foot.below → (row column : List ℕ)
        → ((s : ℕ) → has s row ≡ is_some (block_at v s foot.y))
        → ((t : ℕ) → has t column ≡ is_some (block_at v foot.x t)) → (from to : Option ℕ)
        → FoundUnlisted row (foot.x ∷ keys left) from → FoundUnlisted column (foot.y ∷ keys below) to
        → (p q r : Option (ℕ × ℕ)) → p ≡ option_map (λ s. (s, foot.y)) from → q ≡ option_map (λ t. (foot.x, t)) to
        → IsEarlier p q r → Found Same (IsGained v foot) r
    found-gained left below is_left is_below row column in_row in_column from to f g p q r e h i =
        found-within Same (λ s t. Beside_y s t ⊎ Beside_x s t) (IsGained v foot) r
        (λ s t h. elim h.1.beside [ inl a ↦ inr (h.0, a) | inr b ↦ inl (h.0, b) ])
        (found-either Same Beside_y Beside_x p q r i
        (found-gained_from row from p in_row (subst (λ ls. FoundUnlisted row (foot.x ∷ keys ls) from) is_left f) e)
        (found-gained_to column to q in_column (subst (λ ls. FoundUnlisted column (foot.y ∷ keys ls) to) is_below g) h))
