-- Blocks that stand, compared with parts of a matrix.
use Rattle.std.proofs.Common.{◌≡◌, ◌≢◌, ℕ, zero, suc, ◌<◌, ◌≤◌, Bool, true, false, cond, ◌||◌, refl, sym, ap, ap₂, ◌∙◌}
use Rattle.std.proofs.Common.{arith, inl, inr, List, [], ◌∷◌, length, map, get_or, take, drop, Option, Some, None, eqb}
use Rattle.std.specs.Option.{is_some}
use Rattle.std.proofs.lemmas.Bool.{cases_Bool, cases_eq, cases_lt, eq-eqb, ne_eqb}
use Rattle.std.proofs.lemmas.List.{take_all, length-map, get_or-map}
use Rattle.rising_lists.specs.Rising.{IsRising, has, keys}
use Rattle.rising_lists.proofs.Keyed.{place_of, has-at, has-absent}
use Rattle.block_sparse.specs.StoredBlocks.{StoredBlock, is_zero}
use Rattle.block_sparse.specs.Grids.{width, segment, window, columns_of, block_matrix, nonzero}
use Rattle.dense_blocks.proofs.Cutting.{Sized}
use Rattle.block_sparse.proofs.GridLaws.{segment-at, map-same}
use Rattle.block_sparse.proofs.Windows.{sized-drop, width-within}

-- a cell that is not listed has no segment
pub segment-absent : {T : Type 0} (ls : List (ℕ × ℕ)) (xs : List T) (c : ℕ) → has c (keys ls) ≡ false
    → segment ls xs c ≡ []
segment-absent [] xs c h = refl
segment-absent {T} (l ∷ ls) xs c h = go (eqb l.0 c) (λ m. segment-absent ls (drop l.1 xs) c m) h
  where
    go : (b : Bool) → (has c (keys ls) ≡ false → segment ls (drop l.1 xs) c ≡ []) → (b || has c (keys ls)) ≡ false
        → cond b (take l.1 xs) (segment ls (drop l.1 xs) c) ≡ []
    go true f m = cc
    go false f m = f m

zero-empty_rows : (A : List (List ℕ)) (f : List ℕ → List ℕ) → ((r : List ℕ) → f r ≡ []) → is_zero (map f A) ≡ true
zero-empty_rows [] f h = refl
zero-empty_rows (r ∷ A) f h = rw (h r) (zero-empty_rows A f h)

-- a cell that is not listed has a zero part
pub columns-absent : (left : List (ℕ × ℕ)) (A : List (List ℕ)) (s : ℕ) → has s (keys left) ≡ false
    → nonzero (columns_of left A s) ≡ None
columns-absent left A s h =
    ap (λ b. cond b None (Some (columns_of left A s)))
    (zero-empty_rows A (λ row. segment left row s) (λ r. segment-absent left r s h))

pub rows-absent : (below : List (ℕ × ℕ)) (A : List (List ℕ)) (t : ℕ) → has t (keys below) ≡ false
    → nonzero (segment below A t) ≡ None
rows-absent below A t h = ap nonzero (segment-absent below A t h)

-- the parts of whole rows and of whole columns
pub columns-window : (left : List (ℕ × ℕ)) (A : List (List ℕ)) (m i : ℕ) → IsRising (keys left) → length A ≡ m → i
    < length left
    → window 0 m (width (take i left)) (get_or left i (0, 0)).1 A ≡ columns_of left A (get_or (keys left) i 0)
columns-window left A m i r size l =
    ap (map (λ row. take (get_or left i (0, 0)).1 (drop (width (take i left)) row))) (take_all m A (omega arith))
    ∙ sym (map-same (λ row. segment left row (get_or (keys left) i 0))
    (λ row. take (get_or left i (0, 0)).1 (drop (width (take i left)) row)) (λ row. segment-at left r row i l) A)

pub rows-window : (below : List (ℕ × ℕ)) (A : List (List ℕ)) (m n j : ℕ) → IsRising (keys below) → Sized m n A
    → width below ≤ m → j < length below
    → window (width (take j below)) (get_or below j (0, 0)).1 0 n A ≡ segment below A (get_or (keys below) j 0)
rows-window below A m n j r sized w l =
    let h : ℕ = (get_or below j (0, 0)).1 in
    let row : ℕ = width (take j below) in
    whole h (take h (drop row A)) (sized-drop row h m n A sized (omega (arith, width-within below j l)))
    ∙ sym (segment-at below r A j l)
  where
    whole : (k : ℕ) (B : List (List ℕ)) → Sized k n B → map (λ row. take n row) B ≡ B
    whole zero [] h = refl
    whole zero (b ∷ B) h = absurd h
    whole (suc k) [] h = absurd h
    whole (suc k) (b ∷ B) h = ap₂ ◌∷◌ (take_all n b (omega (arith, h.0))) (whole k B h.1)

-- blocks at listed cells and none elsewhere are as wanted
module _ (ls : List (ℕ × ℕ)) (o : ℕ → Option StoredBlock) (target : ℕ → Option (List (List ℕ))) (x : ℕ) (there : List ℕ)
    (holds : (q : ℕ) → has q there ≡ is_some (o q)) (absent : (q : ℕ) → has q (keys ls) ≡ false → target q ≡ None) where
  key : (i : ℕ) → i < length ls → (get_or ls i (0, 0)).0 ≡ get_or (keys ls) i 0
  key i l = sym (get_or-map (λ s. s.0) ls i (0, 0) 0 l)

  none : (b : Option StoredBlock) → is_some b ≡ false → block_matrix b ≡ None
  none None e = refl
  none (Some b) e = cc

  some : (b : Option StoredBlock) → is_some b ≡ true → block_matrix b ≡ None → ⊥
  some None e f = let g : false ≡ true = e in cc
  some (Some b) e f = cc

  pub all-same : ((i : ℕ) → i < length ls → (get_or ls i (0, 0)).0 ≢ x → block_matrix (o (get_or ls i (0, 0)).0)
      ≡ target (get_or (keys ls) i 0))
      → ((q : ℕ) → has q there ≡ true → q ≢ x → has q (keys ls) ≡ true)
      → (q : ℕ) → q ≢ x → block_matrix (o q) ≡ target q
  all-same p listed q ne = elim (cases_Bool (has q (keys ls))) [
    | inl e ↦
        let at = place_of (keys ls) q e in
        let l : at.at < length ls = omega (arith, at.inside, length-map ls (λ s. s.0)) in
        let is : (get_or ls at.at (0, 0)).0 ≡ q = key at.at l ∙ at.is in
        ap (λ k. block_matrix (o k)) (sym is) ∙ p at.at l (λ e. ne (sym is ∙ e)) ∙ ap target at.is
    | inr e ↦ none (o q) (sym (holds q) ∙ unlisted (has q there) (λ h. listed q h ne) e) ∙ sym (absent q e)
  ]
    where
      unlisted : (b : Bool) → (b ≡ true → has q (keys ls) ≡ true) → has q (keys ls) ≡ false → b ≡ false
      unlisted true f e = let g : true ≡ false = sym (f refl) ∙ e in cc
      unlisted false f e = refl

  pub same-listed : ((q : ℕ) → q ≢ x → block_matrix (o q) ≡ target q) → (q : ℕ) → has q there ≡ true → q ≢ x
      → has q (keys ls) ≡ true
  same-listed all q h ne = elim (cases_Bool (has q (keys ls))) [
    | inl e ↦ e
    | inr e ↦ absurd (some (o q) (sym (holds q) ∙ h) (all q ne ∙ absent q e))
  ]

-- lists of rows with the same rows are the same
pub rows-same : (M W : List (List ℕ)) → length M ≡ length W → ((k : ℕ) → k < length M → get_or M k [] ≡ get_or W k [])
    → M ≡ W
rows-same [] [] n h = refl
rows-same [] (w ∷ W) n h = absurd (omega arith)
rows-same (m ∷ M) [] n h = absurd (omega arith)
rows-same (m ∷ M) (w ∷ W) n h =
    ap₂ ◌∷◌ (h 0 (omega arith)) (rows-same M W (omega arith) (λ k l. h (suc k) (omega arith)))

pub same-at : (ls : List (ℕ × ℕ)) (o : ℕ → Option StoredBlock) (target : ℕ → Option (List (List ℕ))) (x : ℕ)
    → ((q : ℕ) → q ≢ x → block_matrix (o q) ≡ target q)
    → (i : ℕ) → i < length ls → (get_or ls i (0, 0)).0 ≢ x → block_matrix (o (get_or ls i (0, 0)).0)
    ≡ target (get_or (keys ls) i 0)
same-at ls o target x all i l ne = all (get_or ls i (0, 0)).0 ne
    ∙ ap target (sym (get_or-map (λ s. s.0) ls i (0, 0) 0 l))

-- whether the cell stands where it would
pub listed-absent : (ls : List (ℕ × ℕ)) (c at : ℕ) → IsRising (keys ls) → ((i : ℕ) → i < at → get_or (keys ls) i 0 < c)
    → ((i : ℕ) → at ≤ i → i < length ls → c ≤ get_or (keys ls) i 0) → (at < length ls → (get_or ls at (0, 0)).0 ≢ c)
    → has c (keys ls) ≡ false
listed-absent ls c at r below from other = has-absent c (keys ls) (λ i l e.
    let m : i < length ls = omega (arith, l, length-map ls (λ s. s.0)) in
    elim (cases_lt i at) [
      | inl u ↦ absurd (omega (arith, below i u, e))
      | inr u ↦ elim (cases_lt at i) [
        | inl v ↦ absurd (omega (arith, from at (omega arith) (omega arith), r at i v l, e))
        | inr v ↦
            let same : i ≡ at = omega arith in
            absurd (other (omega arith) (sym (get_or-map (λ s. s.0) ls at (0, 0) 0 (omega arith))
            ∙ ap (λ k. get_or (keys ls) k 0) (sym same) ∙ e))
      ]
    ])

pub listed-at : (ls : List (ℕ × ℕ)) (c at : ℕ) → IsRising (keys ls) → ((i : ℕ) → i < at → get_or (keys ls) i 0 < c)
    → ((i : ℕ) → at ≤ i → i < length ls → c ≤ get_or (keys ls) i 0) → at < length ls → eqb (get_or ls at (0, 0)).0 c
    ≡ has c (keys ls)
listed-at ls c at r below from l = elim (cases_eq (get_or ls at (0, 0)).0 c) [
  | inl e ↦
      eq-eqb (get_or ls at (0, 0)).0 c e
      ∙ sym (ap (λ k. has k (keys ls)) (sym (get_or-map (λ s. s.0) ls at (0, 0) 0 l ∙ e))
      ∙ has-at (keys ls) at (omega (arith, l, length-map ls (λ s. s.0))))
  | inr n ↦ ne_eqb (get_or ls at (0, 0)).0 c n ∙ sym (listed-absent ls c at r below from (λ m. n))
]
