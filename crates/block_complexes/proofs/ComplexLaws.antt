-- For a block complex as cells with matrices: the sum over all cells between two is zero exactly where the coboundary
-- of each coboundary is.
use Rattle.std.proofs.Common.{◌≡◌, ◌≢◌, ℕ, zero, suc, ◌<◌, Bool, true, false, cond, ◌||◌, eqb, refl, sym, ap, ap₂, ◌∙◌}
use Rattle.std.proofs.Common.{subst, arith, inl, inr, List, [], ◌∷◌, length, map, get_or, All}
use Rattle.std.specs.List.{flat_map}
use Rattle.std.proofs.lemmas.Bool.{eq-eqb, ne_eqb, eqb-true, cases_eq}
use Rattle.std.proofs.lemmas.List.Elements.{All-map, All-filter, All-from_get_or, filter_passes}
use Rattle.dense_blocks.specs.Field.{Ops}
use Rattle.dense_blocks.specs.FieldLaws.{IsField}
use Rattle.dense_blocks.specs.Vectors.{zeros, plus}
use Rattle.dense_blocks.specs.Matrices.{image_of}
use Rattle.dense_blocks.specs.MatrixFacts.{identity}
use Rattle.dense_blocks.proofs.Shapes.{Vector, Matrix, matrix-size, from_vector}
use Rattle.dense_blocks.proofs.VectorLaws.{zeros-vector, plus-zeros}
use Rattle.dense_blocks.proofs.MatrixLaws.{image_of-vector, image_of-zeros, zero_matrix-image_of, identity-image_of}
use Rattle.dense_blocks.proofs.MatrixLaws.{identity-matrix}
use Rattle.cochain_vec.specs.declared.cell.Cell.{Cell}
use Rattle.cochain_vec.specs.Complexes.{Arrow, CellularComplex, cells_of, total_size, coordinates, value_at, sum_into}
use Rattle.cochain_vec.specs.Complexes.{coboundary}
use Rattle.cochain_vec.specs.CochainComplexes.{IsCochainComplex}
use Rattle.cochain_vec.proofs.CoboundaryLaws.{size_at, RowsInto, sum_into-vector, joined-vector}
use Rattle.cochain_vec.proofs.PathLaws.{sum_over, sum_over-vector, sum_over-same, sum_over-zeros, sum_over-plus}
use Rattle.cochain_vec.proofs.PathLaws.{joined-zeros, value-joined}
use Rattle.rising_lists.specs.Rising.{IsRising, has}
use Rattle.rising_lists.proofs.Keyed.{has-at}
use Rattle.block_complexes.specs.BlockComplexes.{BlockComplex, cells, degree_of, size_of}
use Rattle.block_complexes.specs.Cochains.{complex_of, cell_of, of_degree}
use Rattle.block_complexes.proofs.LiveLaws.{cell-at, length-cells, of_cell-at}
use Rattle.block_complexes.proofs.SumLaws.{sum_into-live, sum_over-some}
use Rattle.block_complexes.specs.Differentials.{IsDifferential}
use Rattle.block_complexes.specs.Laws.{DifferentialIsCochainComplex}
use Rattle.block_complexes.proofs.Sums.{sum_over-equal, image_of-sum_over}
use Rattle.block_complexes.proofs.SameLaws.{same-sym, same-complex, same-differential}
use Rattle.block_complexes.proofs.FullLaws.{IsFull, filled, filled-full, same-filled}
use Rattle.block_complexes.proofs.DifferentialLaws.{between-zero, zero-between}

-- a cell of this degree among the live cells
pub record IsOfDegree (live : List (ℕ × ℕ × ℕ)) (k : ℕ) (u : Cell) : Type 0 where
  pub is_live : has u.cell (cells live) ≡ true
  pub degree : degree_of live u.cell ≡ k
  pub size : size_of live u.cell ≡ u.size

pub of_degree-are : (live : List (ℕ × ℕ × ℕ)) → IsRising (cells live) → (k : ℕ)
    → All (IsOfDegree live k) (of_degree k live)
of_degree-are live r k i d l =
    let u = get_or (of_degree k live) i d in
    let numbers = All-filter (λ (c : Cell). eqb c.degree k) IsCell (map cell_of live)
    (All-map IsCell cell_of live (All-from_get_or (λ m. IsCell (cell_of m)) live (0, 0, 0) numbered)) i d l in
    record {
      is_live = numbers.0;
      degree = numbers.1 ∙ eqb-true u.degree k (filter_passes (λ (c : Cell). eqb c.degree k) (map cell_of live) i d l);
      size = numbers.2;
    }
  where
    IsCell : Cell → Type 0
    IsCell c = (has c.cell (cells live) ≡ true) × (degree_of live c.cell ≡ c.degree) × (size_of live c.cell ≡ c.size)

    numbered : (i : ℕ) → i < length live → IsCell (cell_of (get_or live i (0, 0, 0)))
    numbered i l =
        let m = get_or live i (0, 0, 0) in (
          subst (λ c. has c (cells live) ≡ true) (cell-at live i l)
              (has-at (cells live) i (omega (arith, length-cells live))),
          of_cell-at (λ l. l.1) live i m.0 r l refl,
          of_cell-at (λ l. l.2) live i m.0 r l refl,
        )

-- the size of a live cell among the cells of its degree
pub size-of_degree : (live : List (ℕ × ℕ × ℕ)) (k c : ℕ) → has c (cells live) ≡ true → degree_of live c ≡ k
    → size_at (of_degree k live) c ≡ size_of live c
unfolding size_at
size-of_degree [] k c h e = cc
size-of_degree (l ∷ ls) k c h e = go (eqb l.0 c) refl h e (size-of_degree ls k c)
  where
    rest : List Cell
    rest = of_degree k ls

    go : (b : Bool) → eqb l.0 c ≡ b → (b || has c (cells ls)) ≡ true → cond b l.1 (degree_of ls c) ≡ k
        → (has c (cells ls) ≡ true → degree_of ls c ≡ k → size_at rest c ≡ size_of ls c)
        → size_at (cond (eqb l.1 k) (cell_of l ∷ rest) rest) c ≡ cond b l.2 (size_of ls c)
    go true f m p later = rw (eq-eqb l.1 k p, f) refl
    go false f m p later = other (eqb l.1 k)
      where
        other : (q : Bool) → size_at (cond q (cell_of l ∷ rest) rest) c ≡ size_of ls c
        other true = rw f (later m p)
        other false = later m p

-- a double sum in either order
sum_over-swap : (K : Ops) (F : IsField K) (n : ℕ) (h : ℕ → ℕ → List ℕ) (ss ts : List ℕ)
    → sum_over K n (λ t. sum_over K n (λ s. h s t) ss) ts ≡ sum_over K n (λ s. sum_over K n (λ t. h s t) ts) ss
sum_over-swap K F n h ss [] = sym (sum_over-zeros K F n (λ s. zeros n) ss (λ s. refl))
sum_over-swap K F n h ss (t ∷ ts) =
    ap (plus K (sum_over K n (λ s. h s t) ss)) (sum_over-swap K F n h ss ts)
    ∙ sym (sum_over-plus K F n (λ s. h s t) (λ s. sum_over K n (λ t. h s t) ts) ss)

-- a vector at one cell, zero at all others: what an arrow into that cell gives
module _ (K : Ops) (F : IsField K) (cs : List Cell) (s n : ℕ) (z : List ℕ) (hz : Vector K n z)
    (one : All (λ (c : Cell). c.cell ≡ s → c.size ≡ n) cs) where
  arrow : List Arrow
  arrow = record { from = 0; to = s; matrix = identity n } ∷ []

  pub alone : List ℕ
  alone = flat_map (λ (c : Cell). sum_into K arrow (λ p. z) c.size c.cell) cs

  alone-parts : All (λ (c : Cell). Vector K c.size (sum_into K arrow (λ p. z) c.size c.cell)) cs
  unfolding RowsInto arrow
  alone-parts i d l =
      let c = get_or cs i d in
      sum_into-vector K F arrow (λ p. z) c.size c.cell
      (All-from_get_or (λ (a : Arrow). a.to ≡ c.cell → length a.matrix ≡ c.size) arrow
      (record { from = 0; to = s; matrix = identity n })
      (λ j m. rows j m))
    where
      rows : (j : ℕ) → j < 1 → (get_or arrow j (record { from = 0; to = s; matrix = identity n })).to
          ≡ (get_or cs i d).cell
          → length (get_or arrow j (record { from = 0; to = s; matrix = identity n })).matrix ≡ (get_or cs i d).size
      rows zero m e = matrix-size K n n (identity n) (identity-matrix K F n) ∙ sym (one i d l (sym e))
      rows (suc j) m e = absurd (omega arith)

  pub alone-vector : Vector K (total_size cs) alone
  unfolding alone
  alone-vector = joined-vector K F (λ (c : Cell). sum_into K arrow (λ p. z) c.size c.cell) cs alone-parts

  pub alone-there : size_at cs s ≡ n → value_at cs alone s ≡ z
  unfolding alone arrow
  alone-there e =
      value-joined K F arrow (λ p. z) cs s alone-parts
      ∙ ap (λ b. cond b (plus K (image_of K (identity n) z) (zeros (size_at cs s))) (zeros (size_at cs s)))
      (eq-eqb s s refl)
      ∙ ap₂ (plus K) (identity-image_of K F n z hz) (ap zeros e) ∙ plus-zeros K F n z hz

  pub alone-elsewhere : (p : ℕ) → p ≢ s → value_at cs alone p ≡ zeros (size_at cs p)
  unfolding alone arrow
  alone-elsewhere p apart =
      value-joined K F arrow (λ p. z) cs p alone-parts
      ∙ ap (λ b. cond b (plus K (image_of K (identity n) z) (zeros (size_at cs p))) (zeros (size_at cs p)))
      (ne_eqb s p (λ e. apart (sym e)))

module _ (K : Ops) (F : IsField K) (v : BlockComplex) (full : IsFull K v) where
  abbrev C : CellularComplex
  C = complex_of v

  abbrev size : ℕ → ℕ
  size c = size_of v.live c

  abbrev M : ℕ → ℕ → List (List ℕ)
  M s t = v.matrix s t

  abbrev IsLive : ℕ → Type 0
  IsLive c = has c (cells v.live) ≡ true

  rises : IsRising (cells v.live)
  rises = full.rising

  M-shape : (s t : ℕ) → Matrix K (size t) (size s) (M s t)
  M-shape = full.shape

  -- at t the sum over the live cells s of M(s, t) times the value at s
  abbrev pub arrives : (ℕ → List ℕ) → ℕ → List ℕ
  arrives value t = sum_over K (size t) (λ s. image_of K (M s t) (value s)) (cells v.live)

  abbrev pub passes : ℕ → ℕ → List ℕ → List ℕ
  passes s u z = sum_over K (size u) (λ t. image_of K (M t u) (image_of K (M s t) z)) (cells v.live)

  arrives-vector : (value : ℕ → List ℕ) (t : ℕ) → Vector K (size t) (arrives value t)
  arrives-vector value t =
      sum_over-vector K F (size t) (λ s. image_of K (M s t) (value s)) (cells v.live)
      (λ s. image_of-vector K F (size t) (size s) (M s t) (value s) (M-shape s t))

  pub sum_into-arrives : (value : ℕ → List ℕ) (t : ℕ) → IsLive t
      → sum_into K C.arrows value (size t) t ≡ arrives value t
  sum_into-arrives value t h = sum_into-live K F v value (size t) t
      (λ s. matrix-size K (size t) (size s) (M s t) (M-shape s t)) rises h

  -- twice, by the cells where it begins
  pub arrives-arrives : (value : ℕ → List ℕ) (u : ℕ) → arrives (arrives value) u ≡ sum_over K (size u)
      (λ s. passes s u (value s)) (cells v.live)
  arrives-arrives value u =
      sum_over-same K F (size u) (λ t. image_of K (M t u) (arrives value t))
      (λ t. sum_over K (size u) (λ s. image_of K (M t u) (image_of K (M s t) (value s))) (cells v.live))
      (cells v.live)
      (λ t. image_of-sum_over K F (size t) (size u) (M t u) (λ s. image_of K (M s t) (value s)) (cells v.live)
      (M-shape t u)
      (λ s. image_of-vector K F (size t) (size s) (M s t) (value s) (M-shape s t)))
      ∙ sum_over-swap K F (size u) (λ s t. image_of K (M t u) (image_of K (M s t) (value s))) (cells v.live)
      (cells v.live)

  parts : (k : ℕ) (value : ℕ → List ℕ) → All (λ (t : Cell). Vector K t.size (sum_into K C.arrows value t.size t.cell))
      (cells_of C k)
  parts k value i d l =
      let t = get_or (of_degree k v.live) i d in
      let is = of_degree-are v.live rises k i d l in
      subst (λ n. Vector K n (sum_into K C.arrows value n t.cell)) is.size
      (subst (Vector K (size t.cell)) (sym (sum_into-arrives value t.cell is.is_live)) (arrives-vector value t.cell))

  module _ (k : ℕ) (z : List ℕ) where
    abbrev value : ℕ → List ℕ
    value s = value_at (cells_of C k) z s

    abbrev next : ℕ → List ℕ
    next t = value_at (cells_of C (suc k)) (coboundary K C k z) t

    pub next-is : (t : ℕ) → IsLive t → degree_of v.live t ≡ suc k → next t ≡ arrives value t
    next-is t h e =
        value-joined K F C.arrows value (cells_of C (suc k)) t (parts (suc k) value)
        ∙ ap (λ n. sum_into K C.arrows value n t) (size-of_degree v.live (suc k) t h e)
        ∙ sum_into-arrives value t h

    -- only cells one degree below give something
    next-arrives : (u : ℕ) → degree_of v.live u ≡ suc (suc k)
        → arrives next u ≡ sum_over K (size u) (λ s. passes s u (value s)) (cells v.live)
    next-arrives u e = sum_over-equal K F (size u) (λ t. image_of K (M t u) (next t))
        (λ t. image_of K (M t u) (arrives value t)) (cells v.live) same ∙ arrives-arrives value u
      where
        same : (t : ℕ) → IsLive t → image_of K (M t u) (next t) ≡ image_of K (M t u) (arrives value t)
        same t h = elim (cases_eq (degree_of v.live t) (suc k)) [
          | inl d ↦ ap (image_of K (M t u)) (next-is t h d)
          | inr n ↦
              let none = full.apart t u (λ up. n (omega (arith, up, e))) in
              ap (λ A. image_of K A (next t)) none ∙ zero_matrix-image_of K F (size u) (size t) (next t)
              ∙ sym (ap (λ A. image_of K A (arrives value t)) none ∙ zero_matrix-image_of K F (size u) (size t)
              (arrives value t))
        ]

  pub passes-zero : IsDifferential K v → (s u : ℕ) → IsLive s → IsLive u → (z : List ℕ)
      → passes s u z ≡ zeros (size u)
  passes-zero closed s u hs hu z = between-zero K F size M (cells v.live) (λ s t hs ht. M-shape s t) s u hs hu
      (closed s u (record { from = hs; to = hu })) z

  pub differential-complex : IsDifferential K v → IsCochainComplex K C
  differential-complex closed k z is = joined-zeros (λ (u : Cell). sum_into K C.arrows (next k z) u.size u.cell)
      (cells_of C (suc (suc k))) at_cell
    where
      at_cell : All (λ (u : Cell). sum_into K C.arrows (next k z) u.size u.cell ≡ zeros u.size)
          (cells_of C (suc (suc k)))
      at_cell i d l =
          let u = get_or (of_degree (suc (suc k)) v.live) i d in
          let is = of_degree-are v.live rises (suc (suc k)) i d l in
          subst (λ n. sum_into K C.arrows (next k z) n u.cell ≡ zeros n) is.size
          (sum_into-arrives (next k z) u.cell is.is_live
          ∙ next-arrives k z u.cell is.degree
          ∙ sum_over-equal K F (size u.cell) (λ s. passes s u.cell (value k z s)) (λ s. zeros (size u.cell))
          (cells v.live)
          (λ s hs. passes-zero closed s u.cell hs is.is_live (value k z s))
          ∙ sum_over-zeros K F (size u.cell) (λ s. zeros (size u.cell)) (cells v.live) (λ s. refl))

  -- where the degrees are not two apart, each term is zero
  passes-nothing : (s u : ℕ) (z : List ℕ) → degree_of v.live u ≢ suc (suc (degree_of v.live s))
      → passes s u z ≡ zeros (size u)
  passes-nothing s u z apart = sum_over-zeros K F (size u) (λ t. image_of K (M t u) (image_of K (M s t) z))
      (cells v.live) each
    where
      each : (t : ℕ) → image_of K (M t u) (image_of K (M s t) z) ≡ zeros (size u)
      each t = elim (cases_eq (degree_of v.live t) (suc (degree_of v.live s))) [
        | inl d ↦
            ap (λ A. image_of K A (image_of K (M s t) z)) (full.apart t u (λ up. apart (omega (arith, up, d))))
            ∙ zero_matrix-image_of K F (size u) (size t) (image_of K (M s t) z)
        | inr n ↦
            ap (image_of K (M t u)) (ap (λ A. image_of K A z) (full.apart s t (λ up. n (omega (arith, up))))
            ∙ zero_matrix-image_of K F (size t) (size s) z)
            ∙ image_of-zeros K F (size t) (size u) (size t) (M t u) (M-shape t u)
      ]

  module _ (closed : IsCochainComplex K C) (s u : ℕ) (hs : IsLive s) (hu : IsLive u) (z : List ℕ)
      (hz : Vector K (size s) z)
      (two : degree_of v.live u ≡ suc (suc (degree_of v.live s))) where
    abbrev k : ℕ
    k = degree_of v.live s

    one : All (λ (c : Cell). c.cell ≡ s → c.size ≡ size s) (cells_of C k)
    one i d l e = sym (of_degree-are v.live rises k i d l).size ∙ ap size e

    abbrev only : List ℕ
    only = alone K F (cells_of C k) s (size s) z hz one

    -- a coboundary of a coboundary has zero at u
    at_u : arrives (next k only) u ≡ zeros (size u)
    at_u =
        let top = suc (suc k) in
        let same = size-of_degree v.live top u hu two in
        sym (sum_into-arrives (next k only) u hu)
        ∙ ap (λ n. sum_into K C.arrows (next k only) n u) (sym same)
        ∙ sym (value-joined K F C.arrows (next k only) (cells_of C top) u (parts top (next k only)))
        ∙ ap (λ y. value_at (cells_of C top) y u)
        (closed k only (from_vector K (coordinates C k) only (alone-vector K F (cells_of C k) s (size s) z hz one))
        ∙ sym (joined-zeros (λ (c : Cell). zeros c.size) (cells_of C top) (λ i d l. refl)))
        ∙ value-joined K F [] (next k only) (cells_of C top) u
        (λ i d l. zeros-vector K F (get_or (cells_of C top) i d).size)
        ∙ ap zeros same

    pub passes-two : passes s u z ≡ zeros (size u)
    passes-two =
        let n = size u in
        let term : ℕ → List ℕ = λ p. passes p u (value k only p) in
        let term-vector : (p : ℕ) → Vector K n (term p) =
        λ p. sum_over-vector K F n (λ t. image_of K (M t u) (image_of K (M p t) (value k only p))) (cells v.live)
        (λ t. image_of-vector K F n (size t) (M t u) (image_of K (M p t) (value k only p)) (M-shape t u)) in
        ap (passes s u) (sym (alone-there K F (cells_of C k) s (size s) z hz one (size-of_degree v.live k s hs refl)))
        ∙ sym (plus-zeros K F n (term s) (term-vector s))
        ∙ sym (sum_over-some K F n term (cells v.live) (s ∷ []) rises single within term-vector elsewhere)
        ∙ sym (next-arrives k only u two)
        ∙ at_u
      where
        single : IsRising (s ∷ [])
        single i j l m = absurd (omega arith)

        within : (q : ℕ) → has q (s ∷ []) ≡ true → IsLive q
        within q h = elim (cases_eq s q) [
          | inl e ↦ subst IsLive e hs
          | inr n ↦ let bad : false ≡ true = sym (ap (λ b. b || false) (ne_eqb s q n)) ∙ h in cc
        ]

        elsewhere : (q : ℕ) → has q (s ∷ []) ≡ false → passes q u (value k only q) ≡ zeros (size u)
        elsewhere q h =
            let apart : q ≢ s = λ e. let bad : true ≡ false = sym (ap (λ b. b || false) (eq-eqb s q (sym e)))
            ∙ h in cc in
            ap (passes q u) (alone-elsewhere K F (cells_of C k) s (size s) z hz one q apart)
            ∙ sum_over-zeros K F (size u)
            (λ t. image_of K (M t u) (image_of K (M q t) (zeros (size_at (cells_of C k) q)))) (cells v.live)
            (λ t. ap (image_of K (M t u)) (image_of-zeros K F (size_at (cells_of C k) q) (size t) (size q) (M q t)
            (M-shape q t))
            ∙ image_of-zeros K F (size t) (size u) (size t) (M t u) (M-shape t u))

  pub complex-differential : IsCochainComplex K C → IsDifferential K v
  complex-differential closed s u l = zero-between K F size M (cells v.live) (λ s t hs ht. M-shape s t) s u l.from l.to
      each
    where
      each : (z : List ℕ) → Vector K (size s) z → passes s u z ≡ zeros (size u)
      each z hz = elim (cases_eq (degree_of v.live u) (suc (suc (degree_of v.live s)))) [
        | inl two ↦ passes-two closed s u l.from l.to z hz two
        | inr apart ↦ passes-nothing s u z apart
      ]

pub differential_is_cochain_complex : DifferentialIsCochainComplex
differential_is_cochain_complex K v F is =
    let full = filled-full K F v is in
    let same = same-complex v (filled v) (same-filled v) in (
      λ closed. subst (IsCochainComplex K) same
          (differential-complex K F (filled v) full (same-differential K v (filled v) (same-filled v) closed)),
      λ closed. same-differential K (filled v) v (same-sym v (filled v) (same-filled v))
          (complex-differential K F (filled v) full (subst (IsCochainComplex K) (sym same) closed)),
    )
