-- The maps of a removal, and of removals one after another, meet the four equations.
use Rattle.std.specs.List.{flat_map}
use Rattle.std.proofs.Common.{◌≡◌, ℕ, zero, suc, Bool, true, false, cond, not, ◌||◌, inl, inr, eqb, refl, sym, ap, ap₂}
use Rattle.std.proofs.Common.{◌∙◌, subst, arith, List, get_or, All}
use Rattle.std.proofs.lemmas.Bool.{eq-eqb, eqb-true, cases_eq}
use Rattle.dense_blocks.specs.Field.{Ops}
use Rattle.dense_blocks.specs.FieldLaws.{IsField}
use Rattle.dense_blocks.specs.Vectors.{zeros, plus, multiple}
use Rattle.dense_blocks.specs.MatrixFacts.{negative}
use Rattle.dense_blocks.specs.Matrices.{image_of}
use Rattle.dense_blocks.proofs.Shapes.{Vector, matrix-size, to_vector}
use Rattle.dense_blocks.proofs.VectorLaws.{zeros-vector, plus-vector, negative-vector, plus-zeros, zeros-plus}
use Rattle.dense_blocks.proofs.VectorLaws.{zeros-plus-zeros, negative-of-plus, negative-zeros, plus-cross}
use Rattle.dense_blocks.proofs.VectorLaws.{multiple-vector, multiple-plus, multiple-zeros, multiple-negative}
use Rattle.dense_blocks.proofs.MatrixLaws.{image_of-plus, image_of-zeros, image_of-nil, zero_matrix-image_of}
use Rattle.dense_blocks.proofs.MatrixLaws.{image_of-multiple}
use Rattle.dense_blocks.proofs.LinearMaps.{IsLinear}
use Rattle.cochain_vec.specs.declared.cell.Cell.{Cell}
use Rattle.cochain_vec.specs.Complexes.{CellularComplex, coordinates, sum_into, coboundary}
use Rattle.cochain_vec.specs.Shapes.{RowsFit}
use Rattle.cochain_vec.proofs.CoboundaryLaws.{size_at, value-vector, joined-vector, coboundary-cochain, joined-multiple}
use Rattle.cochain_vec.proofs.CoboundaryLaws.{value-plus, value-multiple, joined-plus, joined-same}
use Rattle.cochain_vec.proofs.PathLaws.{sum_over, joined-zeros, sum_over-same, sum_over-plus, sum_over-multiple}
use Rattle.rising_lists.specs.Rising.{IsRising, has}
use Rattle.block_complexes.specs.BlockComplexes.{BlockComplex, cells, degree_of, size_of}
use Rattle.block_complexes.specs.Cochains.{complex_of, of_degree}
use Rattle.block_complexes.proofs.SumLaws.{rows_fit}
use Rattle.block_complexes.proofs.Sums.{is_other, sum_over-equal}
use Rattle.block_complexes.proofs.ComplexLaws.{sum_into-arrives, next-is}
use Rattle.block_complexes.proofs.FullLaws.{IsFull}
use Rattle.block_complexes.proofs.DegreeLaws.{value-absent}
use Rattle.removals.proofs.CornerLaws.{of_cell-without}
use Rattle.equivalence_laws.specs.Equivalences.{d_h}
use Rattle.equivalence_laws.specs.RemovalMaps.{Removal, cochain_value, removal_pi, removal_iota, removal_h}
use Rattle.equivalence_laws.proofs.CompositionLaws.{AreEquivalent}
use Rattle.equivalence_laws.proofs.CellEquations.{IsSetting}
use Rattle.equivalence_laws.proofs.CochainValues.{each-of_degree, cochain-joined, value-size, value-part}
use Rattle.removals.proofs.RemovalLaws as removals
use Rattle.equivalence_laws.proofs.CellEquations as at_cells

pub full_fits : (K : Ops) (v : BlockComplex) → IsFull K v → RowsFit (complex_of v)
full_fits K v full = rows_fit v full.rising (λ s t. matrix-size K (size_of v.live t) (size_of v.live s) (v.matrix s t)
    (full.shape s t))

module _ (K : Ops) (v : BlockComplex) (r : Removal) (p : IsSetting K v r) where
  open p use {full, rest_full, removal, closed}

  abbrev F : IsField K
  F = p.field

  abbrev x : ℕ
  x = r.x

  abbrev y : ℕ
  y = r.y

  abbrev a : List (List ℕ)
  a = r.inverse

  abbrev w : BlockComplex
  w = r.rest

  abbrev C : CellularComplex
  C = complex_of v

  abbrev D : CellularComplex
  D = complex_of w

  abbrev size : ℕ → ℕ
  size c = size_of v.live c

  abbrev degree : ℕ → ℕ
  degree c = degree_of v.live c

  abbrev M : ℕ → ℕ → List (List ℕ)
  M s t = v.matrix s t

  abbrev IsLive : ℕ → Type 0
  IsLive c = has c (cells v.live) ≡ true

  abbrev IsLeft : ℕ → Type 0
  IsLeft c = has c (cells w.live) ≡ true

  abbrev d : (ℕ → List ℕ) → ℕ → List ℕ
  d f t = at_cells.d K v r p f t

  abbrev d' : (ℕ → List ℕ) → ℕ → List ℕ
  d' f t = at_cells.d' K v r p f t

  abbrev rest : (ℕ → List ℕ) → ℕ → List ℕ
  rest f t = at_cells.rest K v r p f t

  abbrev ext : (ℕ → List ℕ) → ℕ → List ℕ
  ext g t = at_cells.ext K v r p g t

  abbrev through : ℕ → List ℕ → List ℕ
  through t u = at_cells.through K v r p t u

  rises : IsRising (cells v.live)
  rises = full.rising

  pub rises_rest : IsRising (cells w.live)
  rises_rest = rest_full.rising

  pub left-live : (c : ℕ) → IsLeft c → IsLive c
  left-live c h = (at_cells.left-live K v r p c h).0

  pub left-size : (c : ℕ) → IsLeft c → size_of w.live c ≡ size c
  left-size c h = removals.left-size K F v full x y a w removal c h

  pub left-degree : (c : ℕ) → IsLeft c → degree_of w.live c ≡ degree c
  left-degree c h =
      ap (λ live. degree_of live c) removal.live ∙ of_cell-without x y (λ l. l.1) v.live c
      (at_cells.left-live K v r p c h).1

  -- x and y are not left
  absent : (c : ℕ) → is_other x y c ≡ false → has c (cells w.live) ≡ false
  absent c e = go (has c (cells w.live)) refl
    where
      go : (b : Bool) → has c (cells w.live) ≡ b → has c (cells w.live) ≡ false
      go true h = let bad : true ≡ false = sym (at_cells.left-live K v r p c h).1 ∙ e in cc
      go false h = h

  absent-x : has x (cells w.live) ≡ false
  absent-x = absent x (ap (λ b. not (b || eqb x y)) (eq-eqb x x refl))

  absent-y : has y (cells w.live) ≡ false
  absent-y = absent y (go (eqb y x) (eq-eqb y y refl))
    where
      go : (b : Bool) → eqb y y ≡ true → not (b || eqb y y) ≡ false
      go true e = refl
      go false e = ap not e

  -- only cells one degree below t give something at t
  M-agree : (s t : ℕ) (u z : List ℕ) → (degree t ≡ suc (degree s) → u ≡ z) → image_of K (M s t) u ≡ image_of K (M s t) z
  M-agree s t u z e = elim (cases_eq (degree t) (suc (degree s))) [
    | inl up ↦ ap (image_of K (M s t)) (e up)
    | inr n ↦
        let none = full.apart s t (λ up. n (omega (arith, up))) in
        ap (λ A. image_of K A u) none ∙ zero_matrix-image_of K F (size t) (size s) u
        ∙ sym (ap (λ A. image_of K A z) none ∙ zero_matrix-image_of K F (size t) (size s) z)
  ]

  d-agree : (f g : ℕ → List ℕ) (k t : ℕ) → degree t ≡ suc k → ((s : ℕ) → IsLive s → degree s ≡ k → f s ≡ g s) → d f t
      ≡ d g t
  d-agree f g k t e same =
      sum_over-equal K F (size t) (λ s. image_of K (M s t) (f s)) (λ s. image_of K (M s t) (g s)) (cells v.live)
      (λ s hs. M-agree s t (f s) (g s) (λ up. same s hs (omega (arith, up, e))))

  rest-agree : (f g : ℕ → List ℕ) (k t : ℕ) → degree t ≡ suc k → ((s : ℕ) → IsLeft s → degree s ≡ k → f s ≡ g s)
      → rest f t ≡ rest g t
  rest-agree f g k t e same =
      sum_over-equal K F (size t) (λ s. image_of K (M s t) (f s)) (λ s. image_of K (M s t) (g s)) (cells w.live)
      (λ s hs. M-agree s t (f s) (g s) (λ up. same s hs (omega (arith, up, e))))

  d'-agree : (f g : ℕ → List ℕ) (k t : ℕ) → IsLeft t → degree t ≡ suc k
      → ((s : ℕ) → IsLeft s → degree s ≡ k → f s ≡ g s) → d' f t ≡ d' g t
  d'-agree f g k t ht e same =
      sum_over-equal K F (size t) (λ s. image_of K (w.matrix s t) (f s)) (λ s. image_of K (w.matrix s t) (g s))
      (cells w.live) here
    where
      here : (s : ℕ) → IsLeft s → image_of K (w.matrix s t) (f s) ≡ image_of K (w.matrix s t) (g s)
      here s hs = elim (cases_eq (degree s) k) [
        | inl is ↦ ap (image_of K (w.matrix s t)) (same s hs is)
        | inr n ↦
            let none = rest_full.apart s t (λ up. n (omega (arith, up, e, left-degree s hs, left-degree t ht))) in
            ap (λ A. image_of K A (f s)) none ∙ zero_matrix-image_of K F (size_of w.live t) (size_of w.live s) (f s)
            ∙ sym (ap (λ A. image_of K A (g s)) none ∙ zero_matrix-image_of K F (size_of w.live t) (size_of w.live s)
            (g s))
      ]

  through-agree : (t : ℕ) (u z : List ℕ) → (degree y ≡ degree t → u ≡ z) → through t u ≡ through t z
  through-agree t u z e = M-agree x t (image_of K a u) (image_of K a z)
      (λ up. ap (image_of K a) (e (omega (arith, up, removal.pair.degrees))))

  through-zeros : (t : ℕ) → through t (zeros (size y)) ≡ zeros (size t)
  through-zeros t =
      ap (image_of K (M x t)) (image_of-zeros K F (size y) (size x) (size y) a (at_cells.a-shape K v r p))
      ∙ image_of-zeros K F (size x) (size t) (size x) (M x t) (at_cells.M-shape K v r p x t)

  -- the sum into a cell, of either complex
  into-C : (f : ℕ → List ℕ) (t : ℕ) → IsLive t → sum_into K C.arrows f (size t) t ≡ d f t
  into-C f t h = sum_into-arrives K F v full f t h

  to-size : (f : ℕ → List ℕ) (t : ℕ) → IsLeft t → sum_over K (size_of w.live t) (λ s. image_of K (w.matrix s t) (f s))
      (cells w.live) ≡ d' f t
  to-size f t h = ap (λ n. sum_over K n (λ s. image_of K (w.matrix s t) (f s)) (cells w.live)) (left-size t h)

  into-D : (f : ℕ → List ℕ) (t : ℕ) → IsLeft t → sum_into K D.arrows f (size_of w.live t) t ≡ d' f t
  into-D f t h = sum_into-arrives K F w rest_full f t h ∙ to-size f t h

  next-C : (k : ℕ) (z : List ℕ) (t : ℕ) → IsLive t → degree t ≡ suc k → cochain_value v (suc k) (coboundary K C k z) t
      ≡ d (cochain_value v k z) t
  next-C k z t h e = next-is K F v full k z t h e

  next-D : (k : ℕ) (z : List ℕ) (t : ℕ) → IsLeft t → degree t ≡ suc k → cochain_value w (suc k) (coboundary K D k z) t
      ≡ d' (cochain_value w k z) t
  next-D k z t h e = next-is K F w rest_full k z t h (left-degree t h ∙ e) ∙ to-size (cochain_value w k z) t h

  fits : RowsFit C
  fits = full_fits K v full

  fits_rest : RowsFit D
  fits_rest = full_fits K w rest_full

  -- cochains of degree k
  module _ (k : ℕ) where
    each : (P : Cell → Type 0) → ((t : Cell) → IsLive t.cell → degree t.cell ≡ k → size t.cell ≡ t.size → P t)
        → All P (of_degree k v.live)
    each = each-of_degree v rises k

    pub each-left : (P : Cell → Type 0) → ((t : Cell) → IsLeft t.cell → degree t.cell ≡ k → size t.cell ≡ t.size → P t)
        → All P (of_degree k w.live)
    each-left P f = each-of_degree w rises_rest k P
        (λ t h e is. f t h (sym (left-degree t.cell h) ∙ e) (sym (left-size t.cell h) ∙ is))

    with-size : (t : Cell) (u : List ℕ) → size t.cell ≡ t.size → Vector K (size t.cell) u → Vector K t.size u
    with-size t u e h = subst (λ n. Vector K n u) e h

    module _ (z : List ℕ) (hz : Vector K (coordinates C k) z) where
      abbrev value : ℕ → List ℕ
      value c = cochain_value v k z c

      value-vector-here : (c : ℕ) → IsLive c → degree c ≡ k → Vector K (size c) (value c)
      value-vector-here c h e = value-size v rises k K z c hz h e

      -- the values, and zero at cells of other degrees
      pub spread : ℕ → List ℕ
      spread c = cond (eqb (degree c) k) (value c) (zeros (size c))

      pub spread-here : (c : ℕ) → degree c ≡ k → spread c ≡ value c
      unfolding spread
      spread-here c e = ap (λ b. cond b (value c) (zeros (size c))) (eq-eqb (degree c) k e)

      pub spread-vector : (c : ℕ) → IsLive c → Vector K (size c) (spread c)
      unfolding spread
      spread-vector c h = go (eqb (degree c) k) (eqb-true (degree c) k)
        where
          go : (b : Bool) → (b ≡ true → degree c ≡ k) → Vector K (size c) (cond b (value c) (zeros (size c)))
          go true e = value-vector-here c h (e refl)
          go false e = zeros-vector K F (size c)

      -- pi
      abbrev pi : ℕ → List ℕ
      pi t = plus K (value t) (negative K (through t (value y)))

      pi-vector : (t : ℕ) → IsLive t → degree t ≡ k → Vector K (size t) (pi t)
      pi-vector t h e =
          plus-vector K F (size t) (value t) (negative K (through t (value y))) (value-vector-here t h e)
          (negative-vector K F (size t) (through t (value y)) (at_cells.through-vector K v r p t (value y)))

      pi-parts : All (λ (t : Cell). Vector K t.size (pi t.cell)) (of_degree k w.live)
      pi-parts = each-left (λ (t : Cell). Vector K t.size (pi t.cell))
          (λ t h e is. with-size t (pi t.cell) is (pi-vector t.cell (left-live t.cell h) e))

      pi-cochain : Vector K (coordinates D k) (removal_pi K v r k z)
      pi-cochain = joined-vector K F (λ (t : Cell). pi t.cell) (of_degree k w.live) pi-parts

      pub pi-value : (t : ℕ) → IsLeft t → degree t ≡ k → cochain_value w k (removal_pi K v r k z) t ≡ pi t
      pi-value t h e =
          value-part w rises_rest k K (λ (t : Cell). pi t.cell) t (pi t) pi-parts h (left-degree t h ∙ e)
          (subst (λ n. Vector K n (pi t)) (sym (left-size t h)) (pi-vector t (left-live t h) e)) (λ c is same. ap pi is)

      pi-spread : (t : ℕ) → degree t ≡ k → pi t ≡ at_cells.pi K v r p spread spread-vector t
      pi-spread t e =
          ap₂ (λ u z. plus K u (negative K z)) (sym (spread-here t e))
          (through-agree t (value y) (spread y) (λ same. sym (spread-here y (same ∙ e))))

    -- iota
    module _ (z : List ℕ) (hz : Vector K (coordinates D k) z) where
      abbrev below : ℕ → List ℕ
      below c = cochain_value w k z c

      into-y : sum_into K C.arrows below (size y) y ≡ rest below y
      into-y =
          let from : (s : ℕ) → has s (cells w.live) ≡ false → image_of K (M s y) (below s) ≡ zeros (size y) =
          λ s e. ap (image_of K (M s y)) (value-absent k w.live z s e)
          ∙ image_of-nil K F (size y) (size s) (M s y) (at_cells.M-shape K v r p s y) in
          into-C below y removal.pair.to
          ∙ at_cells.d-apart K v r p below y (from y absent-y)
          ∙ ap (λ u. plus K u (rest below y)) (from x absent-x)
          ∙ zeros-plus K F (size y) (rest below y) (at_cells.rest-vector K v r p below y)

      abbrev iota : Cell → List ℕ
      iota t = cond (eqb t.cell x) (negative K (image_of K a (sum_into K C.arrows below (size y) y)))
          (cond (eqb t.cell y) (zeros t.size) (below t.cell))

      iota-ext : (t : Cell) → size t.cell ≡ t.size → iota t ≡ ext below t.cell
      iota-ext t is =
          ap₂ (λ u z. cond (eqb t.cell x) (negative K (image_of K a u)) z) into-y
          (go (eqb t.cell y) (eqb-true t.cell y))
        where
          go : (b : Bool) → (b ≡ true → t.cell ≡ y) → cond b (zeros t.size) (below t.cell)
              ≡ cond b (zeros (size y)) (below t.cell)
          go true e = ap zeros (sym is ∙ ap size (e refl))
          go false e = refl

      ext-vector : (t : ℕ) → IsLive t → degree t ≡ k → Vector K (size t) (ext below t)
      ext-vector t h e = elim (at_cells.which K v r p t h) [
        | inl is ↦
            subst (λ c. Vector K (size c) (ext below c)) (sym is)
            (subst (Vector K (size x)) (sym (at_cells.ext-x K v r p below))
            (negative-vector K F (size x) (image_of K a (rest below y)) (at_cells.a-vector K v r p (rest below y))))
        | inr (inl is) ↦
            subst (λ c. Vector K (size c) (ext below c)) (sym is)
            (subst (Vector K (size y)) (sym (at_cells.ext-y K v r p below)) (zeros-vector K F (size y)))
        | inr (inr l) ↦
            subst (Vector K (size t)) (sym (at_cells.ext-left K v r p below t l))
            (subst (λ n. Vector K n (below t)) (left-size t l)
            (value-size w rises_rest k K z t hz l (left-degree t l ∙ e)))
      ]

      iota-parts : All (λ (t : Cell). Vector K t.size (iota t)) (of_degree k v.live)
      iota-parts =
          each (λ (t : Cell). Vector K t.size (iota t))
          (λ t h e is. subst (Vector K t.size) (sym (iota-ext t is))
          (with-size t (ext below t.cell) is (ext-vector t.cell h e)))

      pub iota-cochain : Vector K (coordinates C k) (removal_iota K v r k z)
      iota-cochain = joined-vector K F iota (of_degree k v.live) iota-parts

      pub iota-value : (t : ℕ) → IsLive t → degree t ≡ k → cochain_value v k (removal_iota K v r k z) t ≡ ext below t
      iota-value t h e =
          value-part v rises k K iota t (ext below t) iota-parts h e (ext-vector t h e)
          (λ c is same. iota-ext c same ∙ ap (ext below) is)

    -- pi and iota are linear
    module _ (z : List ℕ) (hz : Vector K (coordinates C k) z) where
      y-vector : Vector K (size_at (of_degree k v.live) y) (cochain_value v k z y)
      y-vector = value-vector K (of_degree k v.live) z y hz

    through-plus : (t n : ℕ) (u z : List ℕ) → Vector K n u → Vector K n z → through t (plus K u z)
        ≡ plus K (through t u) (through t z)
    through-plus t n u z hu hz =
        ap (image_of K (M x t)) (image_of-plus K F n a u z hu hz)
        ∙ image_of-plus K F (size x) (M x t) (image_of K a u) (image_of K a z) (at_cells.a-vector K v r p u)
        (at_cells.a-vector K v r p z)

    through-multiple : (t c : ℕ) (z : List ℕ) → through t (multiple K c z) ≡ multiple K c (through t z)
    through-multiple t c z = ap (image_of K (M x t)) (image_of-multiple K F c a z)
        ∙ image_of-multiple K F c (M x t) (image_of K a z)

    pi-linear : IsLinear K (coordinates D k) (coordinates C k) (removal_pi K v r k)
    pi-linear = record {
      vector = pi-cochain;
      sums = λ u z hu hz.
          let both = plus-vector K F (coordinates C k) u z hu hz in
          joined-same (λ (t : Cell). pi (plus K u z) both t.cell)
          (λ (t : Cell). plus K (pi u hu t.cell) (pi z hz t.cell)) (of_degree k w.live)
          (each-left (λ (t : Cell). pi (plus K u z) both t.cell ≡ plus K (pi u hu t.cell) (pi z hz t.cell))
          (λ t h e is.
          ap₂ (λ p q. plus K p (negative K q)) (value-plus K cs u z t.cell)
          (ap (through t.cell) (value-plus K cs u z y) ∙ through-plus t.cell (size_at cs y) (cochain_value v k u y)
          (cochain_value v k z y) (y-vector u hu) (y-vector z hz))
          ∙ ap (plus K (plus K (cochain_value v k u t.cell) (cochain_value v k z t.cell)))
          (negative-of-plus K F (through t.cell (cochain_value v k u y)) (through t.cell (cochain_value v k z y)))
          ∙ plus-cross K F (cochain_value v k u t.cell) (cochain_value v k z t.cell)
          (negative K (through t.cell (cochain_value v k u y)))
          (negative K (through t.cell (cochain_value v k z y)))))
          ∙ joined-plus K F (λ (t : Cell). pi u hu t.cell) (λ (t : Cell). pi z hz t.cell)
          (λ (t : Cell). plus K (pi u hu t.cell) (pi z hz t.cell)) (of_degree k w.live) (pi-parts u hu)
          (pi-parts z hz) (λ t. refl);
      multiples = λ c z hz.
          let multiple_z = multiple-vector K F (coordinates C k) c z hz in
          joined-same (λ (t : Cell). pi (multiple K c z) multiple_z t.cell)
          (λ (t : Cell). multiple K c (pi z hz t.cell)) (of_degree k w.live)
          (each-left (λ (t : Cell). pi (multiple K c z) multiple_z t.cell ≡ multiple K c (pi z hz t.cell))
          (λ t h e is.
          ap₂ (λ p q. plus K p (negative K q)) (value-multiple K cs c z t.cell)
          (ap (through t.cell) (value-multiple K cs c z y) ∙ through-multiple t.cell c (cochain_value v k z y))
          ∙ ap (plus K (multiple K c (cochain_value v k z t.cell)))
          (sym (multiple-negative K F c (through t.cell (cochain_value v k z y))))
          ∙ sym (multiple-plus K F c (cochain_value v k z t.cell)
          (negative K (through t.cell (cochain_value v k z y))))))
          ∙ joined-multiple K F c (λ (t : Cell). pi z hz t.cell) (λ (t : Cell). multiple K c (pi z hz t.cell))
          (of_degree k w.live) (λ t. refl);
    }
      where
        cs : List Cell
        cs = of_degree k v.live

    ext-of : List ℕ → ℕ → List ℕ
    ext-of z t = ext (cochain_value w k z) t

    rest-plus : (u z : List ℕ) → Vector K (coordinates D k) u → Vector K (coordinates D k) z
        → rest (cochain_value w k (plus K u z)) y ≡ plus K (rest (cochain_value w k u) y) (rest (cochain_value w k z) y)
    rest-plus u z hu hz =
        let cs = of_degree k w.live in
        sum_over-same K F (size y) (λ s. image_of K (M s y) (cochain_value w k (plus K u z) s))
        (λ s. plus K (image_of K (M s y) (cochain_value w k u s)) (image_of K (M s y) (cochain_value w k z s)))
        (cells w.live)
        (λ s. ap (image_of K (M s y)) (value-plus K cs u z s)
        ∙ image_of-plus K F (size_at cs s) (M s y) (cochain_value w k u s) (cochain_value w k z s)
        (value-vector K cs u s hu) (value-vector K cs z s hz))
        ∙ sum_over-plus K F (size y) (λ s. image_of K (M s y) (cochain_value w k u s))
        (λ s. image_of K (M s y) (cochain_value w k z s)) (cells w.live)

    rest-multiple : (c : ℕ) (z : List ℕ) → rest (cochain_value w k (multiple K c z)) y
        ≡ multiple K c (rest (cochain_value w k z) y)
    rest-multiple c z =
        sum_over-same K F (size y) (λ s. image_of K (M s y) (cochain_value w k (multiple K c z) s))
        (λ s. multiple K c (image_of K (M s y) (cochain_value w k z s))) (cells w.live)
        (λ s. ap (image_of K (M s y)) (value-multiple K (of_degree k w.live) c z s)
        ∙ image_of-multiple K F c (M s y) (cochain_value w k z s))
        ∙ sum_over-multiple K F (size y) c (λ s. image_of K (M s y) (cochain_value w k z s)) (cells w.live)

    ext-plus : (u z : List ℕ) → Vector K (coordinates D k) u → Vector K (coordinates D k) z → (t : ℕ)
        → ext-of (plus K u z) t ≡ plus K (ext-of u t) (ext-of z t)
    unfolding ext-of
    ext-plus u z hu hz t = go (eqb t x) (eqb t y)
      where
        at : List ℕ → List ℕ
        at z = negative K (image_of K a (rest (cochain_value w k z) y))

        go : (b e : Bool) → cond b (at (plus K u z)) (cond e (zeros (size y)) (cochain_value w k (plus K u z) t))
            ≡ plus K (cond b (at u) (cond e (zeros (size y)) (cochain_value w k u t)))
            (cond b (at z) (cond e (zeros (size y)) (cochain_value w k z t)))
        go true e =
            let su = rest (cochain_value w k u) y in
            let sz = rest (cochain_value w k z) y in
            ap (λ s. negative K (image_of K a s)) (rest-plus u z hu hz)
            ∙ ap (negative K) (image_of-plus K F (size y) a su sz (at_cells.rest-vector K v r p (cochain_value w k u) y)
            (at_cells.rest-vector K v r p (cochain_value w k z) y))
            ∙ negative-of-plus K F (image_of K a su) (image_of K a sz)
        go false true = sym (zeros-plus-zeros K F (size y))
        go false false = value-plus K (of_degree k w.live) u z t

    ext-multiple : (c : ℕ) (z : List ℕ) (t : ℕ) → ext-of (multiple K c z) t ≡ multiple K c (ext-of z t)
    unfolding ext-of
    ext-multiple c z t = go (eqb t x) (eqb t y)
      where
        at : List ℕ → List ℕ
        at z = negative K (image_of K a (rest (cochain_value w k z) y))

        go : (b e : Bool) → cond b (at (multiple K c z))
            (cond e (zeros (size y)) (cochain_value w k (multiple K c z) t))
            ≡ multiple K c (cond b (at z) (cond e (zeros (size y)) (cochain_value w k z t)))
        go true e =
            ap (λ s. negative K (image_of K a s)) (rest-multiple c z)
            ∙ ap (negative K) (image_of-multiple K F c a (rest (cochain_value w k z) y))
            ∙ sym (multiple-negative K F c (image_of K a (rest (cochain_value w k z) y)))
        go false true = sym (multiple-zeros K F c (size y))
        go false false = value-multiple K (of_degree k w.live) c z t

    iota-linear : IsLinear K (coordinates C k) (coordinates D k) (removal_iota K v r k)
    unfolding ext-of
    iota-linear = record {
      vector = iota-cochain;
      sums = λ u z hu hz.
          let both = plus-vector K F (coordinates D k) u z hu hz in
          joined-same (iota (plus K u z) both) (λ t. plus K (iota u hu t) (iota z hz t)) (of_degree k v.live)
          (each (λ (t : Cell). iota (plus K u z) both t ≡ plus K (iota u hu t) (iota z hz t))
          (λ t h e is.
          iota-ext (plus K u z) both t is ∙ ext-plus u z hu hz t.cell
          ∙ ap₂ (plus K) (sym (iota-ext u hu t is)) (sym (iota-ext z hz t is))))
          ∙ joined-plus K F (iota u hu) (iota z hz) (λ (t : Cell). plus K (iota u hu t) (iota z hz t))
          (of_degree k v.live) (iota-parts u hu) (iota-parts z hz) (λ t. refl);
      multiples = λ c z hz.
          let multiple_z = multiple-vector K F (coordinates D k) c z hz in
          joined-same (iota (multiple K c z) multiple_z) (λ t. multiple K c (iota z hz t)) (of_degree k v.live)
          (each (λ (t : Cell). iota (multiple K c z) multiple_z t ≡ multiple K c (iota z hz t))
          (λ t h e is. iota-ext (multiple K c z) multiple_z t is ∙ ext-multiple c z t.cell
          ∙ ap (multiple K c) (sym (iota-ext z hz t is))))
          ∙ joined-multiple K F c (iota z hz) (λ (t : Cell). multiple K c (iota z hz t)) (of_degree k v.live)
          (λ t. refl);
    }

  -- h, from degree k + 1 to degree k
  module _ (k : ℕ) (z : List ℕ) (hz : Vector K (coordinates C (suc k)) z) where
    abbrev lower : Cell → List ℕ
    lower t = cond (eqb t.cell x) (image_of K a (cochain_value v (suc k) z y)) (zeros t.size)

    lower-spread : (t : Cell) → degree t.cell ≡ k → size t.cell ≡ t.size → lower t
        ≡ at_cells.lower K v r p (spread (suc k) z hz) (spread-vector (suc k) z hz) t.cell
    lower-spread t e is = go (eqb t.cell x) (eqb-true t.cell x)
      where
        go : (b : Bool) → (b ≡ true → t.cell ≡ x)
            → cond b (image_of K a (cochain_value v (suc k) z y)) (zeros t.size)
            ≡ cond b (image_of K a (spread (suc k) z hz y)) (zeros (size t.cell))
        go true at_x =
            let same : degree x ≡ degree t.cell = ap degree (sym (at_x refl)) in
            ap (image_of K a) (sym (spread-here (suc k) z hz y (omega (arith, removal.pair.degrees, same, e))))
        go false other = ap zeros (sym is)

    lower-vector : (t : ℕ) → IsLive t → Vector K (size t)
        (at_cells.lower K v r p (spread (suc k) z hz) (spread-vector (suc k) z hz) t)
    lower-vector t h = go (eqb t x) (eqb-true t x)
      where
        go : (b : Bool) → (b ≡ true → t ≡ x) → Vector K (size t)
            (cond b (image_of K a (spread (suc k) z hz y)) (zeros (size t)))
        go true e = subst (λ c. Vector K (size c) (image_of K a (spread (suc k) z hz y))) (sym (e refl))
            (at_cells.a-vector K v r p (spread (suc k) z hz y))
        go false e = zeros-vector K F (size t)

    lower-parts : All (λ (t : Cell). Vector K t.size (lower t)) (of_degree k v.live)
    lower-parts =
        each k (λ (t : Cell). Vector K t.size (lower t))
        (λ t h e is. subst (Vector K t.size) (sym (lower-spread t e is))
        (with-size k t (at_cells.lower K v r p (spread (suc k) z hz) (spread-vector (suc k) z hz) t.cell) is
        (lower-vector t.cell h)))

    pub h-cochain : Vector K (coordinates C k) (removal_h K v r k z)
    h-cochain = joined-vector K F lower (of_degree k v.live) lower-parts

    pub h-value : (t : ℕ) → IsLive t → degree t ≡ k → cochain_value v k (removal_h K v r k z) t
        ≡ at_cells.lower K v r p (spread (suc k) z hz) (spread-vector (suc k) z hz) t
    h-value t h e =
        value-part v rises k K lower t (at_cells.lower K v r p (spread (suc k) z hz) (spread-vector (suc k) z hz) t)
        lower-parts h e (lower-vector t h)
        (λ c is same. lower-spread c (ap degree is ∙ e) same
        ∙ ap (at_cells.lower K v r p (spread (suc k) z hz) (spread-vector (suc k) z hz)) is)

  h-linear : (k : ℕ) → IsLinear K (coordinates C k) (coordinates C (suc k)) (removal_h K v r k)
  h-linear k = record {
    vector = h-cochain k;
    sums = λ u z hu hz.
        let both = plus-vector K F (coordinates C (suc k)) u z hu hz in
        joined-same (lower k (plus K u z) both) (λ t. plus K (lower k u hu t) (lower k z hz t)) (of_degree k v.live)
        (each k (λ (t : Cell). lower k (plus K u z) both t ≡ plus K (lower k u hu t) (lower k z hz t))
        (λ t h e is.
        elim (eqb t.cell x) as (λ b. cond b (image_of K a (cochain_value v (suc k) (plus K u z) y)) (zeros t.size)
        ≡ plus K (cond b (image_of K a (cochain_value v (suc k) u y)) (zeros t.size))
        (cond b (image_of K a (cochain_value v (suc k) z y)) (zeros t.size))) [
          | true ↦
              ap (image_of K a) (value-plus K cs u z y)
              ∙ image_of-plus K F (size_at cs y) a (cochain_value v (suc k) u y) (cochain_value v (suc k) z y)
              (value-vector K cs u y hu) (value-vector K cs z y hz)
          | false ↦ sym (zeros-plus-zeros K F t.size)
        ]))
        ∙ joined-plus K F (lower k u hu) (lower k z hz) (λ (t : Cell). plus K (lower k u hu t) (lower k z hz t))
        (of_degree k v.live) (lower-parts k u hu) (lower-parts k z hz) (λ t. refl);
    multiples = λ c z hz.
        let multiple_z = multiple-vector K F (coordinates C (suc k)) c z hz in
        joined-same (lower k (multiple K c z) multiple_z) (λ t. multiple K c (lower k z hz t)) (of_degree k v.live)
        (each k (λ (t : Cell). lower k (multiple K c z) multiple_z t ≡ multiple K c (lower k z hz t))
        (λ t h e is.
        elim (eqb t.cell x) as (λ b. cond b (image_of K a (cochain_value v (suc k) (multiple K c z) y)) (zeros t.size)
        ≡ multiple K c (cond b (image_of K a (cochain_value v (suc k) z y)) (zeros t.size))) [
          | true ↦ ap (image_of K a) (value-multiple K cs c z y)
              ∙ image_of-multiple K F c a (cochain_value v (suc k) z y)
          | false ↦ sym (multiple-zeros K F c t.size)
        ]))
        ∙ joined-multiple K F c (lower k z hz) (λ (t : Cell). multiple K c (lower k z hz t)) (of_degree k v.live)
        (λ t. refl);
  }
    where
      cs : List Cell
      cs = of_degree (suc k) v.live

  -- the four equations
  equation-pi_d : (k : ℕ) (z : List ℕ) → Vector K (coordinates C k) z → removal_pi K v r (suc k) (coboundary K C k z)
      ≡ coboundary K D k (removal_pi K v r k z)
  equation-pi_d k z hz =
      let dz = coboundary K C k z in
      let hdz : Vector K (coordinates C (suc k)) dz = coboundary-cochain K F C fits k z in
      let f : ℕ → List ℕ = spread k z hz in
      let pi_f : ℕ → List ℕ = at_cells.pi K v r p f (spread-vector k z hz) in
      let small : ℕ → List ℕ = cochain_value w k (removal_pi K v r k z) in
      let value : (q : ℕ) → IsLive q → degree q ≡ suc k → cochain_value v (suc k) dz q ≡ d f q =
      λ q h e. next-C k z q h e ∙ d-agree (cochain_value v k z) f k q e (λ s hs is. sym (spread-here k z hz s is)) in
      joined-same (λ (t : Cell). pi (suc k) dz hdz t.cell) (λ (t : Cell). sum_into K D.arrows small t.size t.cell)
      (of_degree (suc k) w.live)
      (each-left (suc k) (λ (t : Cell). pi (suc k) dz hdz t.cell ≡ sum_into K D.arrows small t.size t.cell)
      (λ t h e is.
      ap₂ (λ u z. plus K u (negative K z)) (value t.cell (left-live t.cell h) e)
      (through-agree t.cell (cochain_value v (suc k) dz y) (d f y) (λ same. value y removal.pair.to (same ∙ e)))
      ∙ sym (at_cells.d'-pi K v r p f (spread-vector k z hz) t.cell h)
      ∙ d'-agree pi_f small k t.cell h e (λ s hs below. sym (pi-value k z hz s hs below ∙ pi-spread k z hz s below))
      ∙ sym (into-D small t.cell h)
      ∙ ap (λ n. sum_into K D.arrows small n t.cell) (left-size t.cell h ∙ is)))

  equation-d_iota : (k : ℕ) (z : List ℕ) → Vector K (coordinates D k) z → coboundary K C k (removal_iota K v r k z)
      ≡ removal_iota K v r (suc k) (coboundary K D k z)
  equation-d_iota k z hz =
      joined-same (λ (t : Cell). sum_into K C.arrows whole t.size t.cell) (iota (suc k) dz hdz)
      (of_degree (suc k) v.live)
      (each (suc k) (λ (t : Cell). sum_into K C.arrows whole t.size t.cell ≡ iota (suc k) dz hdz t)
      (λ t h e is.
      ap (λ n. sum_into K C.arrows whole n t.cell) (sym is)
      ∙ into-C whole t.cell h
      ∙ d-agree whole (ext g) k t.cell e (λ s hs below. iota-value k z hz s hs below)
      ∙ at_cell t.cell h e
      ∙ sym (iota-ext (suc k) dz hdz t is)))
    where
      dz : List ℕ
      dz = coboundary K D k z

      hdz : Vector K (coordinates D (suc k)) dz
      hdz = coboundary-cochain K F D fits_rest k z

      whole : ℕ → List ℕ
      whole c = cochain_value v k (removal_iota K v r k z) c

      g : ℕ → List ℕ
      g c = cochain_value w k z c

      g' : ℕ → List ℕ
      g' c = cochain_value w (suc k) dz c

      at_cell : (t : ℕ) → IsLive t → degree t ≡ suc k → d (ext g) t ≡ ext g' t
      at_cell t h e = elim (at_cells.which K v r p t h) [
        | inl is ↦ subst (λ c. d (ext g) c ≡ ext g' c) (sym is)
            (at_cells.d-ext-x K v r p g
            ∙ ap (λ u. negative K (image_of K a u))
            (rest-agree (d' g) g' (suc k) y (let same : degree t ≡ degree x = ap degree is in
            omega (arith, removal.pair.degrees, same, e))
            (λ s hs below. sym (next-D k z s hs below)))
            ∙ sym (at_cells.ext-x K v r p g'))
        | inr (inl is) ↦ subst (λ c. d (ext g) c ≡ ext g' c) (sym is)
            (at_cells.d-ext-y K v r p g ∙ sym (at_cells.ext-y K v r p g'))
        | inr (inr l) ↦ at_cells.d-ext-left K v r p g t l ∙ sym (next-D k z t l e)
            ∙ sym (at_cells.ext-left K v r p g' t l)
      ]

  equation-pi_iota : (k : ℕ) (z : List ℕ) → Vector K (coordinates D k) z → removal_pi K v r k (removal_iota K v r k z)
      ≡ z
  equation-pi_iota k z hz =
      let up = removal_iota K v r k z in
      let g : ℕ → List ℕ = cochain_value w k z in
      joined-same (λ (t : Cell). pi k up (iota-cochain k z hz) t.cell) (λ (t : Cell). g t.cell) (of_degree k w.live)
      (each-left k (λ (t : Cell). pi k up (iota-cochain k z hz) t.cell ≡ g t.cell)
      (λ t h e is.
      let n = size t.cell in
      ap₂ (λ u z. plus K u (negative K z)) (iota-value k z hz t.cell (left-live t.cell h) e
      ∙ at_cells.ext-left K v r p g t.cell h)
      (through-agree t.cell (cochain_value v k up y) (zeros (size y))
      (λ same. iota-value k z hz y removal.pair.to (same ∙ e) ∙ at_cells.ext-y K v r p g)
      ∙ through-zeros t.cell)
      ∙ ap (plus K (g t.cell)) (negative-zeros K F n)
      ∙ plus-zeros K F n (g t.cell)
      (subst (λ m. Vector K m (g t.cell)) (left-size t.cell h)
      (value-size w rises_rest k K z t.cell hz h (left-degree t.cell h ∙ e)))))
      ∙ sym (cochain-joined w rises_rest k K z hz)

  -- d h, cell by cell; in degree 0 nothing comes from below
  d_h-joined : (k : ℕ) (z : List ℕ) (hz : Vector K (coordinates C k) z)
      → d_h K C (removal_h K v r) k z ≡ flat_map (λ (t : Cell). through t.cell (spread k z hz y)) (of_degree k v.live)
  d_h-joined zero z hz =
      sym (joined-zeros (λ (t : Cell). through t.cell (spread 0 z hz y)) (of_degree 0 v.live)
      (each 0 (λ (t : Cell). through t.cell (spread 0 z hz y) ≡ zeros t.size)
      (λ t h e is.
      through-agree t.cell (spread 0 z hz y) (zeros (size y))
      (λ same. absurd (omega (arith, removal.pair.degrees, same, e)))
      ∙ through-zeros t.cell ∙ ap zeros is)))
  d_h-joined (suc k) z hz =
      let down : ℕ → List ℕ = cochain_value v k (removal_h K v r k z) in
      let lowered : ℕ → List ℕ = at_cells.lower K v r p (spread (suc k) z hz) (spread-vector (suc k) z hz) in
      joined-same (λ (t : Cell). sum_into K C.arrows down t.size t.cell)
      (λ (t : Cell). through t.cell (spread (suc k) z hz y)) (of_degree (suc k) v.live)
      (each (suc k) (λ (t : Cell). sum_into K C.arrows down t.size t.cell ≡ through t.cell (spread (suc k) z hz y))
      (λ t h e is.
      ap (λ n. sum_into K C.arrows down n t.cell) (sym is)
      ∙ into-C down t.cell h
      ∙ d-agree down lowered k t.cell e (λ s hs below. h-value k z hz s hs below)
      ∙ at_cells.d-lower K v r p (spread (suc k) z hz) (spread-vector (suc k) z hz) t.cell))

  equation-homotopy : (k : ℕ) (z : List ℕ) → Vector K (coordinates C k) z
      → z ≡ plus K (removal_iota K v r k (removal_pi K v r k z))
      (plus K (d_h K C (removal_h K v r) k z) (removal_h K v r k (coboundary K C k z)))
  equation-homotopy k z hz =
      cochain-joined v rises k K z hz
      ∙ joined-same (λ (t : Cell). cochain_value v k z t.cell) (λ t. plus K (first t) (plus K (second t) (third t))) cs
      (each k (λ t. cochain_value v k z t.cell ≡ plus K (first t) (plus K (second t) (third t))) here)
      ∙ joined-plus K F first (λ t. plus K (second t) (third t))
      (λ (t : Cell). plus K (first t) (plus K (second t) (third t))) cs (iota-parts k w_z hw)
      (λ i d l. plus-vector K F (get_or cs i d).size (second (get_or cs i d)) (third (get_or cs i d))
      (second-parts i d l) (third-parts i d l)) (λ t. refl)
      ∙ ap (plus K (removal_iota K v r k w_z)) (sym (ap (λ u. plus K u (removal_h K v r k dz)) (d_h-joined k z hz)
      ∙ sym (joined-plus K F second third (λ (t : Cell). plus K (second t) (third t)) cs second-parts third-parts
      (λ t. refl))))
    where
      cs : List Cell
      cs = of_degree k v.live

      f : ℕ → List ℕ
      f c = spread k z hz c

      hf : (c : ℕ) → IsLive c → Vector K (size c) (f c)
      hf = spread-vector k z hz

      pi_f : ℕ → List ℕ
      pi_f c = at_cells.pi K v r p f hf c

      w_z : List ℕ
      w_z = removal_pi K v r k z

      hw : Vector K (coordinates D k) w_z
      hw = pi-cochain k z hz

      dz : List ℕ
      dz = coboundary K C k z

      hdz : Vector K (coordinates C (suc k)) dz
      hdz = coboundary-cochain K F C fits k z

      first : Cell → List ℕ
      first t = iota k w_z hw t

      second : Cell → List ℕ
      second t = through t.cell (f y)

      third : Cell → List ℕ
      third t = lower k dz hdz t

      second-parts : All (λ (t : Cell). Vector K t.size (second t)) cs
      second-parts = each k (λ (t : Cell). Vector K t.size (second t))
          (λ t h e is. with-size k t (second t) is (at_cells.through-vector K v r p t.cell (f y)))

      third-parts : All (λ (t : Cell). Vector K t.size (third t)) cs
      third-parts = lower-parts k dz hdz

      small : (c : ℕ) → IsLeft c → degree c ≡ k → cochain_value w k w_z c ≡ pi_f c
      small c h e = pi-value k z hz c h e ∙ pi-spread k z hz c e

      next : (q : ℕ) → IsLive q → degree q ≡ suc k → spread (suc k) dz hdz q ≡ d f q
      next q h e =
          spread-here (suc k) dz hdz q e ∙ next-C k z q h e
          ∙ d-agree (cochain_value v k z) f k q e (λ s hs is. sym (spread-here k z hz s is))

      parts : (c : ℕ) → List ℕ
      parts c = plus K (ext (cochain_value w k w_z) c)
          (plus K (through c (f y)) (at_cells.lower K v r p (spread (suc k) dz hdz) (spread-vector (suc k) dz hdz) c))

      at_cell : (c : ℕ) → IsLive c → degree c ≡ k → f c ≡ parts c
      at_cell c h e = elim (at_cells.which K v r p c h) [
        | inl is ↦ subst (λ c. f c ≡ parts c) (sym is)
            (let at_x : degree x ≡ k = ap degree (sym is) ∙ e in
            let at_y : degree y ≡ suc k = omega (arith, removal.pair.degrees, at_x) in
            at_cells.homotopy-x K v r p f hf
            ∙ ap₂ (λ u z. plus K u (plus K (through x (f y)) z))
            (sym (at_cells.ext-x K v r p (cochain_value w k w_z)
            ∙ ap (λ u. negative K (image_of K a u)) (rest-agree (cochain_value w k w_z) pi_f k y at_y small)))
            (sym (at_cells.lower-x K v r p (spread (suc k) dz hdz) (spread-vector (suc k) dz hdz)
            ∙ ap (image_of K a) (next y removal.pair.to at_y))))
        | inr (inl is) ↦ subst (λ c. f c ≡ parts c) (sym is)
            (at_cells.homotopy-y K v r p f hf
            ∙ ap₂ (λ u z. plus K u (plus K (through y (f y)) z)) (sym (at_cells.ext-y K v r p (cochain_value w k w_z)))
            (sym (at_cells.lower-other K v r p (spread (suc k) dz hdz) (spread-vector (suc k) dz hdz) y
            (at_cells.distinct K v r p))))
        | inr (inr l) ↦
            at_cells.homotopy-left K v r p f hf c l
            ∙ ap₂ (λ u z. plus K u (plus K (through c (f y)) z))
            (sym (at_cells.ext-left K v r p (cochain_value w k w_z) c l ∙ small c l e))
            (sym (at_cells.lower-other K v r p (spread (suc k) dz hdz) (spread-vector (suc k) dz hdz) c
            (at_cells.left-not_x K v r p f hf c l)))
      ]

      here : (t : Cell) → IsLive t.cell → degree t.cell ≡ k → size t.cell ≡ t.size → cochain_value v k z t.cell
          ≡ plus K (first t) (plus K (second t) (third t))
      here t h e is =
          sym (spread-here k z hz t.cell e) ∙ at_cell t.cell h e
          ∙ ap₂ (λ u z. plus K u (plus K (second t) z)) (sym (iota-ext k w_z hw t is))
          (sym (lower-spread k dz hdz t e is))

  pub full-equivalent : AreEquivalent K C D (removal_pi K v r) (removal_iota K v r) (removal_h K v r)
  full-equivalent = record {
    pi_linear = pi-linear;
    iota_linear = iota-linear;
    h_linear = h-linear;
    equations = record {
      pi_d = λ k z hz. equation-pi_d k z (to_vector K (coordinates C k) z hz);
      d_iota = λ k z hz. equation-d_iota k z (to_vector K (coordinates D k) z hz);
      pi_iota = λ k z hz. equation-pi_iota k z (to_vector K (coordinates D k) z hz);
      homotopy = λ k z hz. equation-homotopy k z (to_vector K (coordinates C k) z hz);
    };
  }
