-- Sums over rising lists of cells, and the sum into a cell as the sum over the live cells.
use Rattle.std.proofs.Common.{◌≡◌, ◌≢◌, ℕ, ◌<◌, ◌≤◌, ◌+◌, Bool, true, false, cond, ◌&&◌, ◌||◌, refl, sym, ap, ap₂, ◌∙◌}
use Rattle.std.proofs.Common.{arith, ◌⊎◌, inl, inr, List, [], ◌∷◌, ◌++◌, length, map, filter, get_or, take, eqb, All}
use Rattle.std.specs.List.{flat_map}
use Rattle.std.proofs.lemmas.Bool.{eq-eqb, ne_eqb, eqb-true, cases_eq}
use Rattle.std.proofs.lemmas.List.{take_more}
use Rattle.std.proofs.lemmas.List.Elements.{All-append, All-filter, All-from_get_or, All-map, All-nil, All-tail}
use Rattle.std.proofs.lemmas.List.Elements.{All-head}
use Rattle.dense_blocks.specs.Field.{Ops}
use Rattle.dense_blocks.specs.FieldLaws.{IsField}
use Rattle.dense_blocks.specs.Vectors.{zeros, plus}
use Rattle.dense_blocks.specs.Matrices.{image_of}
use Rattle.dense_blocks.proofs.Shapes.{Vector}
use Rattle.dense_blocks.proofs.VectorLaws.{plus-assoc, plus-comm}
use Rattle.cochain_vec.specs.declared.cell.Cell.{Cell}
use Rattle.cochain_vec.specs.Complexes.{Arrow, sum_into}
use Rattle.cochain_vec.specs.Shapes.{RowsFit}
use Rattle.cochain_vec.proofs.CoboundaryLaws.{image_of-rows}
use Rattle.cochain_vec.proofs.PathLaws.{sum_over, sum_over-filter}
use Rattle.rising_lists.specs.Rising.{IsRising, has}
use Rattle.rising_lists.proofs.Keyed.{rising_tail, rising_head, rising_cons, head-absent, place_of}
use Rattle.block_complexes.specs.BlockComplexes.{BlockComplex, cells, size_of}
use Rattle.block_complexes.specs.Cochains.{cell_of, complex_of}
use Rattle.block_complexes.proofs.LiveLaws.{of_cell-at}

pub rising-filter : (p : ℕ → Bool) (ks : List ℕ) → IsRising ks → IsRising (filter p ks)
rising-filter p [] r = r
rising-filter p (k ∷ ks) r =
    elim (p k) as (λ b. IsRising (cond b (k ∷ filter p ks) (filter p ks))) [
      | true ↦ rising_cons k (filter p ks)
          (λ i l. All-filter p (λ q. k < q) ks (All-from_get_or (λ q. k < q) ks 0 (rising_head k ks r)) i 0 l)
          (rising-filter p ks (rising_tail k ks r))
      | false ↦ rising-filter p ks (rising_tail k ks r)
    ]

pub has-filter : (p : ℕ → Bool) (ks : List ℕ) (q : ℕ) → has q (filter p ks) ≡ (has q ks && p q)
has-filter p [] q = refl
has-filter p (k ∷ ks) q = go (p k) (eqb k q) refl refl (has-filter p ks q)
  where
    and_false : (a : Bool) → (a && false) ≡ false
    and_false true = refl
    and_false false = refl

    go : (x e : Bool) → p k ≡ x → eqb k q ≡ e → has q (filter p ks) ≡ (has q ks && p q)
        → has q (cond x (k ∷ filter p ks) (filter p ks)) ≡ ((eqb k q || has q ks) && p q)
    go true true f e r = rw e (sym (ap p (sym (eqb-true k q e)) ∙ f))
    go true false f e r = rw e r
    go false true f e r =
        let out : p q ≡ false = ap p (sym (eqb-true k q e)) ∙ f in
        rw e (r ∙ ap (λ b. has q ks && b) out ∙ and_false (has q ks) ∙ sym out)
    go false false f e r = rw e r

has-head : (k : ℕ) (ks : List ℕ) → has k (k ∷ ks) ≡ true
has-head k ks = ap (λ b. b || has k ks) (eq-eqb k k refl)

least : (k : ℕ) (ks : List ℕ) (q : ℕ) → IsRising (k ∷ ks) → has q (k ∷ ks) ≡ true → k ≤ q
least k ks q r h = go (cases_eq k q) h
  where
    go : (k ≡ q) ⊎ (k ≡ q → ⊥) → (eqb k q || has q ks) ≡ true → k ≤ q
    go (inl e) m = omega arith
    go (inr n) m =
        let p = place_of ks q (sym (ap (λ b. b || has q ks) (ne_eqb k q n)) ∙ m) in
        omega (arith, rising_head k ks r p.at p.inside, p.is)

-- rising lists of the same cells are the same
rising-same : (xs ys : List ℕ) → IsRising xs → IsRising ys → ((q : ℕ) → has q xs ≡ has q ys) → xs ≡ ys
rising-same [] [] r s h = refl
rising-same [] (y ∷ ys) r s h = let e : false ≡ true = h y ∙ has-head y ys in cc
rising-same (x ∷ xs) [] r s h = let e : true ≡ false = sym (has-head x xs) ∙ h x in cc
rising-same (x ∷ xs) (y ∷ ys) r s h =
    let low : y ≤ x = least y ys x s (sym (h x) ∙ has-head x xs) in
    let high : x ≤ y = least x xs y r (h y ∙ has-head y ys) in
    let e : x ≡ y = omega arith in
    ap₂ ◌∷◌ e (rising-same xs ys (rising_tail x xs r) (rising_tail y ys s) (λ q. elim (cases_eq x q) [
      | inl f ↦ ap (λ k. has k xs) (sym f) ∙ head-absent x xs r
          ∙ sym (ap (λ k. has k ys) (sym f ∙ e) ∙ head-absent y ys s)
      | inr n ↦ sym (ap (λ b. b || has q xs) (ne_eqb x q n)) ∙ h q
          ∙ ap (λ b. b || has q ys) (ne_eqb y q (λ f. n (e ∙ f)))
    ]))

module _ (K : Ops) (F : IsField K) (n : ℕ) (f : ℕ → List ℕ) where
  sum_over-push : (xs : List ℕ) (x : ℕ) → sum_over K n f (xs ++ x ∷ []) ≡ plus K (sum_over K n f xs) (f x)
  sum_over-push [] x = plus-comm K F (f x) (zeros n)
  sum_over-push (y ∷ xs) x = ap (plus K (f y)) (sum_over-push xs x)
      ∙ sym (plus-assoc K F (f y) (sum_over K n f xs) (f x))

  -- one cell more
  pub sum_over-next : (xs : List ℕ) (i d : ℕ) → i < length xs → sum_over K n f (take (i + 1) xs)
      ≡ plus K (sum_over K n f (take i xs)) (f (get_or xs i d))
  sum_over-next xs i d l = ap (sum_over K n f) (take_more xs i d l) ∙ sum_over-push (take i xs) (get_or xs i d)

  -- cells that add nothing may be left out
  pub sum_over-some : (xs ys : List ℕ) → IsRising xs → IsRising ys → ((q : ℕ) → has q ys ≡ true → has q xs ≡ true)
      → ((q : ℕ) → Vector K n (f q))
      → ((q : ℕ) → has q ys ≡ false → f q ≡ zeros n) → sum_over K n f xs ≡ sum_over K n f ys
  sum_over-some xs ys r s within shape none =
      sum_over-filter K F n f (λ q. has q ys) xs shape none
      ∙ ap (sum_over K n f)
      (rising-same (filter (λ q. has q ys) xs) ys (rising-filter (λ q. has q ys) xs r) s
      (λ q. has-filter (λ q. has q ys) xs q ∙ same (has q xs) (has q ys) (within q)))
    where
      same : (a b : Bool) → (b ≡ true → a ≡ true) → (a && b) ≡ b
      same true b h = refl
      same false true h = h refl
      same false false h = refl

-- the matrices from some cells to one
abbrev to_cell : BlockComplex → List ℕ → ℕ → List Arrow
to_cell v ss u = map (λ s. record { from = s; to = u; matrix = v.matrix s u }) ss

all-matrices : (v : BlockComplex) (P : Arrow → Type 0) (ss us : List ℕ)
    → All (λ u. (s : ℕ) → P (record { from = s; to = u; matrix = v.matrix s u })) us
    → All P (flat_map (to_cell v ss) us)
all-matrices v P ss [] h = All-nil P
all-matrices v P ss (u ∷ us) h =
    let Into : ℕ → Type 0 = λ u. (s : ℕ) → P (record { from = s; to = u; matrix = v.matrix s u }) in
    All-append P (to_cell v ss u) (flat_map (to_cell v ss) us)
    (All-map P (λ s. record { from = s; to = u; matrix = v.matrix s u }) ss
    (λ i d l. All-head Into u us h (get_or ss i d)))
    (all-matrices v P ss us (All-tail Into u us h))

-- each matrix into a live cell has a row for each coordinate of the cell
pub rows_fit : (v : BlockComplex) → IsRising (cells v.live) → ((s t : ℕ) → length (v.matrix s t) ≡ size_of v.live t)
    → RowsFit (complex_of v)
rows_fit v rises sized =
    All-map (λ (t : Cell). All (λ (a : Arrow). a.to ≡ t.cell → length a.matrix ≡ t.size) (complex_of v).arrows) cell_of
    v.live
    (All-from_get_or (λ (l : ℕ × ℕ × ℕ). All (λ (a : Arrow). a.to ≡ l.0 → length a.matrix ≡ l.2) (complex_of v).arrows)
    v.live (0, 0, 0)
    (λ i inside. let l = get_or v.live i (0, 0, 0) in
    all-matrices v (λ (a : Arrow). a.to ≡ l.0 → length a.matrix ≡ l.2) (cells v.live) (cells v.live)
    (λ j d m s e. sized s (get_or (cells v.live) j d) ∙ of_cell-at (λ l. l.2) v.live i (get_or (cells v.live) j d) rises
    inside (sym e))))

-- the sum into a live cell of n coordinates
module _ (K : Ops) (F : IsField K) (v : BlockComplex) (value : ℕ → List ℕ) (n t : ℕ)
    (rows : (s : ℕ) → length (v.matrix s t) ≡ n) where
  abbrev pub arriving : ℕ → List ℕ
  arriving s = image_of K (v.matrix s t) (value s)

  pub arriving-vector : (s : ℕ) → Vector K n (arriving s)
  arriving-vector s = image_of-rows K F n (v.matrix s t) (value s) (rows s)

  into-other : (ss : List ℕ) (u : ℕ) (others : List Arrow) → u ≢ t → sum_into K (to_cell v ss u ++ others) value n t
      ≡ sum_into K others value n t
  into-other [] u others apart = refl
  into-other (s ∷ ss) u others apart = rw (ne_eqb u t apart) (into-other ss u others apart)

  into-same : (ss : List ℕ) (others : List Arrow) → sum_into K others value n t ≡ zeros n
      → sum_into K (to_cell v ss t ++ others) value n t ≡ sum_over K n arriving ss
  into-same [] others none = none
  into-same (s ∷ ss) others none = rw (eq-eqb t t refl) (ap (plus K (arriving s)) (into-same ss others none))

  into-none : (ss us : List ℕ) → has t us ≡ false → sum_into K (flat_map (to_cell v ss) us) value n t ≡ zeros n
  into-none ss [] h = refl
  into-none ss (u ∷ us) h = go (cases_eq u t) h (into-none ss us)
    where
      go : (u ≡ t) ⊎ (u ≡ t → ⊥) → (eqb u t || has t us) ≡ false
          → (has t us ≡ false → sum_into K (flat_map (to_cell v ss) us) value n t ≡ zeros n)
          → sum_into K (to_cell v ss u ++ flat_map (to_cell v ss) us) value n t ≡ zeros n
      go (inl e) m later = let f : true ≡ false = sym (ap (λ b. b || has t us) (eq-eqb u t e)) ∙ m in cc
      go (inr apart) m later = into-other ss u (flat_map (to_cell v ss) us) apart
          ∙ later (sym (ap (λ b. b || has t us) (ne_eqb u t apart)) ∙ m)

  into-one : (ss us : List ℕ) → IsRising us → has t us ≡ true → sum_into K (flat_map (to_cell v ss) us) value n t
      ≡ sum_over K n arriving ss
  into-one ss [] r h = cc
  into-one ss (u ∷ us) r h = go (cases_eq u t) h (into-one ss us (rising_tail u us r))
    where
      go : (u ≡ t) ⊎ (u ≡ t → ⊥) → (eqb u t || has t us) ≡ true
          → (has t us ≡ true → sum_into K (flat_map (to_cell v ss) us) value n t ≡ sum_over K n arriving ss)
          → sum_into K (to_cell v ss u ++ flat_map (to_cell v ss) us) value n t ≡ sum_over K n arriving ss
      go (inl e) m later =
          ap (λ k. sum_into K (to_cell v ss k ++ flat_map (to_cell v ss) us) value n t) e
          ∙ into-same ss (flat_map (to_cell v ss) us)
          (into-none ss us (ap (λ k. has k us) (sym e) ∙ head-absent u us r))
      go (inr apart) m later = into-other ss u (flat_map (to_cell v ss) us) apart
          ∙ later (sym (ap (λ b. b || has t us) (ne_eqb u t apart)) ∙ m)

  -- the sum, over the live cells s, of the matrix from s to t times the value at s
  pub sum_into-live : IsRising (cells v.live) → has t (cells v.live) ≡ true
      → sum_into K (complex_of v).arrows value n t ≡ sum_over K n arriving (cells v.live)
  sum_into-live r h = into-one (cells v.live) (cells v.live) r h
