-- One removal more, by what rows at cells make of cochains.
use Rattle.std.specs.List.{flat_map}
use Rattle.std.proofs.Common.{◌≡◌, ◌≢◌, ℕ, zero, suc, ◌+◌, Bool, true, false, cond, ◌||◌, eqb, inl, inr, refl, sym, ap}
use Rattle.std.proofs.Common.{ap₂, ◌∙◌, subst, arith, List, [], ◌∷◌, ◌++◌, length, map, take, drop, All}
use Rattle.std.proofs.Common.{take-append-drop}
use Rattle.std.proofs.lemmas.List.Elements.{All-tail, All-head}
use Rattle.std.proofs.lemmas.Bool.{eq-eqb, ne_eqb, cases_eq, cases_Bool}
use Rattle.dense_blocks.specs.Field.{Ops}
use Rattle.dense_blocks.specs.FieldLaws.{IsField}
use Rattle.dense_blocks.specs.Vectors.{zeros, plus, combination}
use Rattle.dense_blocks.specs.MatrixFacts.{negative}
use Rattle.dense_blocks.specs.Matrices.{image_of}
use Rattle.dense_blocks.proofs.Shapes.{Vector, Matrix, vector-size, vector-nil, matrix-size}
use Rattle.dense_blocks.proofs.VectorLaws.{plus-vector, negative-vector, combination-vector, zeros-plus, plus-zeros}
use Rattle.dense_blocks.proofs.VectorLaws.{zeros-plus-zeros, plus-comm, negative-zeros, zeros-vector}
use Rattle.dense_blocks.proofs.VectorLaws.{combination-append, combination-zeros}
use Rattle.dense_blocks.proofs.MatrixLaws.{image_of-vector, image_of-zeros, image_of-nil, image_of-negative}
use Rattle.dense_blocks.proofs.MatrixLaws.{zero_matrix-image_of}
use Rattle.cochain_vec.specs.declared.cell.Cell.{Cell}
use Rattle.cochain_vec.specs.Complexes.{CellularComplex, total_size, coordinates, value_at}
use Rattle.cochain_vec.proofs.CoboundaryLaws.{size_at, take-vector, drop-vector, value-vector}
use Rattle.cochain_vec.proofs.PathLaws.{sum_over, sum_over-vector, sum_over-zeros, sum_over-plus, sum_over-same}
use Rattle.rising_lists.specs.Rising.{IsRising, has}
use Rattle.rising_lists.proofs.Keyed.{rising_tail, head-absent}
use Rattle.block_complexes.specs.BlockComplexes.{BlockComplex, cells, degree_of, size_of}
use Rattle.block_complexes.specs.Cochains.{complex_of, cell_of, of_degree}
use Rattle.block_complexes.proofs.Sums.{sum_over-equal, sum_over-negative, sum_over-apart}
use Rattle.block_complexes.proofs.ComplexLaws.{size-of_degree}
use Rattle.equivalence_laws.specs.RemovalMaps.{Removal, cochain_value, removal_pi, removal_iota, removal_h}
use Rattle.equivalence_laws.proofs.CellEquations.{IsSetting}
use Rattle.equivalence_laws.proofs.CochainValues.{value-size, each-of_degree}
use Rattle.equivalence_laws.proofs.UpdateLaws.{size-absent, size-other, image_of-sum, joined-matrix}
use Rattle.equivalence_laws.proofs.CellEquations as at_cells
use Rattle.equivalence_laws.proofs.RemovalEquations as on_cochains
use Rattle.equivalence_laws.specs.Transposes.{transpose}
use Rattle.equivalence_laws.proofs.TransposeLaws.{transpose-matrix, image_of-transpose}

-- the combination, by a cochain, of rows at cells
module _ (K : Ops) (F : IsField K) (m : ℕ) (Q : ℕ → List (List ℕ)) where
  pub combination-joined : (live : List (ℕ × ℕ × ℕ)) → IsRising (cells live) → (k : ℕ) (z : List ℕ)
      → All (λ (t : Cell). Matrix K t.size m (Q t.cell)) (of_degree k live)
      → Vector K (total_size (of_degree k live)) z
      → combination K m z (flat_map (λ (t : Cell). Q t.cell) (of_degree k live))
      ≡ sum_over K m (λ c. combination K m (value_at (of_degree k live) z c) (Q c)) (cells live)
  combination-joined [] r k z h hz = ap (λ u. combination K m u []) (vector-nil K z hz)
  combination-joined (l ∷ ls) r k z h hz =
      go (eqb l.1 k) h hz (λ u. combination-joined ls (rising_tail l.0 (cells ls) r) k u)
    where
      rest : List Cell
      rest = of_degree k ls

      later_rows : List (List ℕ)
      later_rows = flat_map (λ (t : Cell). Q t.cell) rest

      absent : has l.0 (cells ls) ≡ false
      absent = head-absent l.0 (cells ls) r

      term : Bool → List ℕ → ℕ → List ℕ
      term b u c = combination K m (cond b (take l.2 u) (value_at rest (drop l.2 u) c)) (Q c)

      go : (b : Bool) → All (λ (t : Cell). Matrix K t.size m (Q t.cell)) (cond b (cell_of l ∷ rest) rest)
          → Vector K (total_size (cond b (cell_of l ∷ rest) rest)) z
          → ((u : List ℕ) → All (λ (t : Cell). Matrix K t.size m (Q t.cell)) rest → Vector K (total_size rest) u
          → combination K m u later_rows ≡ sum_over K m (λ c. combination K m (value_at rest u c) (Q c)) (cells ls))
          → combination K m z (flat_map (λ (t : Cell). Q t.cell) (cond b (cell_of l ∷ rest) rest))
          ≡ plus K (combination K m (value_at (cond b (cell_of l ∷ rest) rest) z l.0) (Q l.0))
          (sum_over K m (λ c. combination K m (value_at (cond b (cell_of l ∷ rest) rest) z c) (Q c)) (cells ls))
      go true h hz later =
          let here = All-head (λ (t : Cell). Matrix K t.size m (Q t.cell)) (cell_of l) rest h in
          let others = All-tail (λ (t : Cell). Matrix K t.size m (Q t.cell)) (cell_of l) rest h in
          let n = l.2 in
          ap (λ u. combination K m u (Q l.0 ++ later_rows)) (sym (take-append-drop n z))
          ∙ combination-append K F (total_size rest) m (take n z) (drop n z) (Q l.0) later_rows
          (vector-size K n (take n z) (take-vector K n (total_size rest) z hz) ∙ sym (matrix-size K n m (Q l.0) here))
          (joined-matrix K (λ (t : Cell). Q t.cell) m rest others)
          ∙ ap₂ (plus K) (sym (ap (λ b. term b z l.0) (eq-eqb l.0 l.0 refl)))
          (later (drop n z) others (drop-vector K n (total_size rest) z hz)
          ∙ sum_over-equal K F m (λ c. combination K m (value_at rest (drop n z) c) (Q c)) (λ c. term (eqb l.0 c) z c)
          (cells ls)
          (λ c hc. sym (ap (λ b. term b z c) (ne_eqb l.0 c (λ e. let bad : false ≡ true = sym absent
          ∙ ap (λ q. has q (cells ls)) e ∙ hc in cc)))))
      go false h hz later =
          let none : value_at rest z l.0 ≡ [] = vector-nil K (value_at rest z l.0)
          (subst (λ n. Vector K n (value_at rest z l.0)) (size-absent ls k l.0 absent)
          (value-vector K rest z l.0 hz)) in
          later z h hz
          ∙ sym (zeros-plus K F m (sum_over K m (λ c. combination K m (value_at rest z c) (Q c)) (cells ls))
          (subst (Vector K m) (later z h hz)
          (combination-vector K F (total_size rest) m z later_rows
          (joined-matrix K (λ (t : Cell). Q t.cell) m rest h))))
          ∙ ap (λ u. plus K u (sum_over K m (λ c. combination K m (value_at rest z c) (Q c)) (cells ls)))
          (sym (ap (λ u. combination K m u (Q l.0)) none))

module _ (K : Ops) (u : BlockComplex) (r : Removal) (p : IsSetting K u r) (k : ℕ) where
  open p use {full, removal}

  abbrev F : IsField K
  F = p.field

  abbrev x : ℕ
  x = r.x

  abbrev y : ℕ
  y = r.y

  abbrev a : List (List ℕ)
  a = r.inverse

  abbrev w : BlockComplex
  w = r.rest

  abbrev B : CellularComplex
  B = complex_of u

  abbrev D : CellularComplex
  D = complex_of w

  abbrev size : ℕ → ℕ
  size c = size_of u.live c

  abbrev degree : ℕ → ℕ
  degree c = degree_of u.live c

  abbrev M : ℕ → ℕ → List (List ℕ)
  M s t = u.matrix s t

  abbrev IsLive : ℕ → Type 0
  IsLive c = has c (cells u.live) ≡ true

  abbrev IsLeft : ℕ → Type 0
  IsLeft c = has c (cells w.live) ≡ true

  rises : IsRising (cells u.live)
  rises = full.rising

  rises_rest : IsRising (cells w.live)
  rises_rest = on_cochains.rises_rest K u r p

  is-live : (c : ℕ) → IsLeft c → IsLive c
  is-live c h = on_cochains.left-live K u r p c h

  -- no value at cells of other degrees
  no_value : (z : List ℕ) → Vector K (coordinates B k) z → (c : ℕ) → IsLive c → degree c ≢ k
      → cochain_value u k z c ≡ []
  no_value z hz c h n = vector-nil K (cochain_value u k z c)
      (subst (λ j. Vector K j (cochain_value u k z c)) (size-other u.live k c rises n h)
      (value-vector K (of_degree k u.live) z c hz))

  no_value_left : (z : List ℕ) → Vector K (coordinates D k) z → (c : ℕ) → IsLeft c → degree c ≢ k
      → cochain_value w k z c ≡ []
  no_value_left z hz c h n = vector-nil K (cochain_value w k z c)
      (subst (λ j. Vector K j (cochain_value w k z c))
      (size-other w.live k c rises_rest (λ e. n (sym (on_cochains.left-degree K u r p c h) ∙ e)) h)
      (value-vector K (of_degree k w.live) z c hz))

  -- M(x, c) is zero where c has not the degree of y, and M(c, y) where c has not that of x
  from_x-zeros : (c : ℕ) → degree c ≢ degree y → (z : List ℕ) → image_of K (M x c) z ≡ zeros (size c)
  from_x-zeros c n z =
      ap (λ A. image_of K A z) (full.apart x c (λ up. n (omega (arith, up, removal.pair.degrees))))
      ∙ zero_matrix-image_of K F (size c) (size x) z

  to_y-zeros : (c : ℕ) → degree c ≢ degree x → (z : List ℕ) → image_of K (M c y) z ≡ zeros (size y)
  to_y-zeros c n z =
      ap (λ A. image_of K A z) (full.apart c y (λ up. n (omega (arith, up, removal.pair.degrees))))
      ∙ zero_matrix-image_of K F (size y) (size c) z

  -- pi: the rows at cells that are left
  module _ (P P' : ℕ → List (List ℕ)) (z q : List ℕ) (hq : Vector K (coordinates B k) q)
      (rows : (c : ℕ) → IsLive c → degree c ≡ k → image_of K (P c) z ≡ cochain_value u k q c)
      (same : (c : ℕ) → IsLeft c → degree c ≢ degree y → P' c ≡ P c)
      (next : (c : ℕ) → IsLeft c → degree c ≡ degree y → image_of K (P' c) z
      ≡ plus K (image_of K (P c) z) (negative K (image_of K (M x c) (image_of K a (image_of K (P y) z))))) where
    pub pi-next : (c : ℕ) → IsLeft c → degree c ≡ k → image_of K (P' c) z ≡ cochain_value w k (removal_pi K u r k q) c
    pi-next c h e = elim (cases_eq (degree c) (degree y)) [
      | inl here ↦
          next c h here
          ∙ ap₂ (λ s t. plus K s (negative K (image_of K (M x c) (image_of K a t)))) (rows c (is-live c h) e)
          (rows y removal.pair.to (sym here ∙ e))
          ∙ sym (on_cochains.pi-value K u r p k q hq c h e)
      | inr n ↦
          ap (λ A. image_of K A z) (same c h n) ∙ rows c (is-live c h) e
          ∙ sym (on_cochains.pi-value K u r p k q hq c h e
          ∙ ap (λ s. plus K (cochain_value u k q c) (negative K s))
          (from_x-zeros c n (image_of K a (cochain_value u k q y)))
          ∙ ap (plus K (cochain_value u k q c)) (negative-zeros K F (size c))
          ∙ plus-zeros K F (size c) (cochain_value u k q c) (value-size u rises k K q c hq (is-live c h) e))
    ]

  -- iota: the columns at cells, as rows
  module _ (m : ℕ) (Q : ℕ → List (List ℕ))
      (shape : (c : ℕ) → IsLive c → degree c ≡ k → Matrix K (size c) m (Q c)) where
    abbrev term : List ℕ → ℕ → List ℕ
    term z c = combination K m (cochain_value u k z c) (Q c)

    shapes : All (λ (t : Cell). Matrix K t.size m (Q t.cell)) (of_degree k u.live)
    shapes = each-of_degree u rises k (λ (t : Cell). Matrix K t.size m (Q t.cell))
        (λ t h e is. subst (λ n. Matrix K n m (Q t.cell)) is (shape t.cell h e))

    term-none : (z : List ℕ) (c : ℕ) → cochain_value u k z c ≡ [] → term z c ≡ zeros m
    term-none z c e = ap (λ v. combination K m v (Q c)) e

    term-vector : (z : List ℕ) → Vector K (coordinates B k) z → (c : ℕ) → Vector K m (term z c)
    term-vector z hz c = elim (cases_Bool (has c (cells u.live))) [
      | inl h ↦ elim (cases_eq (degree c) k) [
        | inl e ↦ combination-vector K F (size c) m (cochain_value u k z c) (Q c) (shape c h e)
        | inr n ↦ subst (Vector K m) (sym (term-none z c (no_value z hz c h n))) (zeros-vector K F m)
      ]
      | inr h ↦
          subst (Vector K m) (sym (term-none z c (vector-nil K (cochain_value u k z c)
          (subst (λ j. Vector K j (cochain_value u k z c)) (size-absent u.live k c h)
          (value-vector K (of_degree k u.live) z c hz))))) (zeros-vector K F m)
    ]

    -- x apart, where nothing comes from y
    apart : (z : List ℕ) → Vector K (coordinates B k) z → term z y ≡ zeros m
        → combination K m z (flat_map (λ (t : Cell). Q t.cell) (of_degree k u.live))
        ≡ plus K (term z x) (sum_over K m (term z) (cells w.live))
    apart z hz none =
        combination-joined K F m Q u.live rises k z shapes hz
        ∙ sum_over-apart K F m (term z) (term-vector z hz) x y none (cells u.live) rises removal.pair.from
        ∙ ap (λ ks. plus K (term z x) (sum_over K m (term z) ks)) (sym (at_cells.cells-left K u r p))

    -- iota of the removal
    module _ (z : List ℕ) (hz : Vector K (coordinates D k) z) where
      abbrev g : ℕ → List ℕ
      g c = cochain_value w k z c

      abbrev image : List ℕ
      image = removal_iota K u r k z

      image-vector : Vector K (coordinates B k) image
      image-vector = on_cochains.iota-cochain K u r p k z hz

      value-here : (c : ℕ) → IsLive c → degree c ≡ k → cochain_value u k image c ≡ at_cells.ext K u r p g c
      value-here c h e = on_cochains.iota-value K u r p k z hz c h e

      at_y : term image y ≡ zeros m
      at_y = elim (cases_eq (degree y) k) [
        | inl e ↦
            ap (λ v. combination K m v (Q y)) (value-here y removal.pair.to e ∙ at_cells.ext-y K u r p g)
            ∙ combination-zeros K F (size y) (size y) m (Q y) (shape y removal.pair.to e)
        | inr n ↦ term-none image y (no_value image image-vector y removal.pair.to n)
      ]

      at_left : (c : ℕ) → IsLeft c → term image c ≡ combination K m (g c) (Q c)
      at_left c h = ap (λ v. combination K m v (Q c)) (elim (cases_eq (degree c) k) [
        | inl e ↦ value-here c (is-live c h) e ∙ at_cells.ext-left K u r p g c h
        | inr n ↦ no_value image image-vector c (is-live c h) n ∙ sym (no_value_left z hz c h n)
      ])

      iota-apart : combination K m image (flat_map (λ (t : Cell). Q t.cell) (of_degree k u.live))
          ≡ plus K (term image x) (sum_over K m (λ c. combination K m (g c) (Q c)) (cells w.live))
      iota-apart =
          apart image image-vector at_y
          ∙ ap (plus K (term image x)) (sum_over-equal K F m (term image) (λ c. combination K m (g c) (Q c))
          (cells w.live) at_left)

      module _ (Q' : ℕ → List (List ℕ))
          (shape' : (c : ℕ) → IsLeft c → degree c ≡ k → Matrix K (size c) m (Q' c))
          (same : (c : ℕ) → IsLeft c → degree c ≢ degree x → Q' c ≡ Q c)
          (next : degree x ≡ k → (c : ℕ) → IsLeft c → degree c ≡ k → (v : List ℕ) → Vector K (size c) v
          → combination K m v (Q' c) ≡ plus K (combination K m v (Q c))
          (negative K (combination K m (image_of K a (image_of K (M c y) v)) (Q x)))) where
        shapes' : All (λ (t : Cell). Matrix K t.size m (Q' t.cell)) (of_degree k w.live)
        shapes' = on_cochains.each-left K u r p k (λ (t : Cell). Matrix K t.size m (Q' t.cell))
            (λ t h e is. subst (λ n. Matrix K n m (Q' t.cell)) is (shape' t.cell h e))

        new : combination K m z (flat_map (λ (t : Cell). Q' t.cell) (of_degree k w.live))
            ≡ sum_over K m (λ c. combination K m (g c) (Q' c)) (cells w.live)
        new = combination-joined K F m Q' w.live rises_rest k z shapes' hz

        -- x has another degree
        elsewhere : degree x ≢ k → sum_over K m (λ c. combination K m (g c) (Q' c)) (cells w.live)
            ≡ plus K (term image x) (sum_over K m (λ c. combination K m (g c) (Q c)) (cells w.live))
        elsewhere n =
            let sum = sum_over K m (λ c. combination K m (g c) (Q c)) (cells w.live) in
            let e = sum_over-equal K F m (λ c. combination K m (g c) (Q' c)) (λ c. combination K m (g c) (Q c))
            (cells w.live) each in
            e
            ∙ sym (zeros-plus K F m sum (subst (Vector K m) (new ∙ e)
            (combination-vector K F (coordinates D k) m z (flat_map (λ (t : Cell). Q' t.cell) (of_degree k w.live))
            (joined-matrix K (λ (t : Cell). Q' t.cell) m (of_degree k w.live) shapes'))))
            ∙ ap (λ s. plus K s sum) (sym (term-none image x (no_value image image-vector x removal.pair.from n)))
          where
            each : (c : ℕ) → IsLeft c → combination K m (g c) (Q' c) ≡ combination K m (g c) (Q c)
            each c h = elim (cases_eq (degree c) k) [
              | inl e ↦ ap (combination K m (g c)) (same c h (λ q. n (sym q ∙ e)))
              | inr d ↦ ap (λ v. combination K m v (Q' c)) (no_value_left z hz c h d)
                  ∙ sym (ap (λ v. combination K m v (Q c)) (no_value_left z hz c h d))
            ]

        -- x has this degree
        abbrev N : List (List ℕ)
        N = transpose m (Q x)

        abbrev second : ℕ → List ℕ
        second c = image_of K N (image_of K a (image_of K (M c y) (g c)))

        abbrev back : List ℕ
        back = image_of K a (at_cells.rest K u r p g y)

        at : degree x ≡ k → sum_over K m (λ c. combination K m (g c) (Q' c)) (cells w.live)
            ≡ plus K (term image x) (sum_over K m (λ c. combination K m (g c) (Q c)) (cells w.live))
        at e =
            sum_over-equal K F m (λ c. combination K m (g c) (Q' c))
            (λ c. plus K (combination K m (g c) (Q c)) (negative K (second c))) (cells w.live) each
            ∙ sum_over-plus K F m (λ c. combination K m (g c) (Q c)) (λ c. negative K (second c)) (cells w.live)
            ∙ plus-comm K F (sum_over K m (λ c. combination K m (g c) (Q c)) (cells w.live))
            (sum_over K m (λ c. negative K (second c)) (cells w.live))
            ∙ ap (λ s. plus K s (sum_over K m (λ c. combination K m (g c) (Q c)) (cells w.live)))
            (sum_over-negative K F m second (cells w.live)
            ∙ ap (negative K)
            (sym (ap (image_of K N) (image_of-sum K F (size x) (size y) (size y) a (λ c. image_of K (M c y) (g c))
            (cells w.live) (at_cells.a-shape K u r p) (λ c. at_cells.M-vector K u r p c y (g c)))
            ∙ image_of-sum K F m (size x) (size x) N (λ c. image_of K a (image_of K (M c y) (g c)))
            (cells w.live) N-shape
            (λ c. at_cells.a-vector K u r p (image_of K (M c y) (g c)))))
            ∙ sym (image_of-negative K F N back)
            ∙ image_of-transpose K F (size x) m (Q x) (negative K back) x-shape
            (negative-vector K F (size x) back (at_cells.a-vector K u r p (at_cells.rest K u r p g y)))
            ∙ sym (ap (λ v. combination K m v (Q x))
            (value-here x removal.pair.from e ∙ at_cells.ext-x K u r p g)))
          where
            x-shape : Matrix K (size x) m (Q x)
            x-shape = shape x removal.pair.from e

            N-shape : Matrix K m (size x) N
            N-shape = transpose-matrix K F (size x) m (Q x) x-shape

            each : (c : ℕ) → IsLeft c → combination K m (g c) (Q' c)
                ≡ plus K (combination K m (g c) (Q c)) (negative K (second c))
            each c h = elim (cases_eq (degree c) k) [
              | inl d ↦
                  let v = image_of K a (image_of K (M c y) (g c)) in
                  next e c h d (g c)
                  (subst (λ j. Vector K j (g c)) (on_cochains.left-size K u r p c h)
                  (value-size w rises_rest k K z c hz h (on_cochains.left-degree K u r p c h ∙ d)))
                  ∙ ap (λ s. plus K (combination K m (g c) (Q c)) (negative K s))
                  (sym (image_of-transpose K F (size x) m (Q x) v x-shape
                  (at_cells.a-vector K u r p (image_of K (M c y) (g c)))))
              | inr d ↦
                  let none = no_value_left z hz c h d in
                  ap (λ v. combination K m v (Q' c)) none
                  ∙ sym (ap₂ (λ s t. plus K s (negative K t)) (ap (λ v. combination K m v (Q c)) none)
                  (ap (λ s. image_of K N (image_of K a s)) (to_y-zeros c (λ q. d (q ∙ e)) (g c))
                  ∙ ap (image_of K N) (image_of-zeros K F (size y) (size x) (size y) a (at_cells.a-shape K u r p))
                  ∙ image_of-zeros K F (size x) m (size x) N N-shape)
                  ∙ ap (plus K (zeros m)) (negative-zeros K F m) ∙ zeros-plus-zeros K F m)
            ]

        pub iota-next : combination K m z (flat_map (λ (t : Cell). Q' t.cell) (of_degree k w.live))
            ≡ combination K m (removal_iota K u r k z) (flat_map (λ (t : Cell). Q t.cell) (of_degree k u.live))
        iota-next = new ∙ elim (cases_eq (degree x) k) [ inl e ↦ at e | inr n ↦ elsewhere n ] ∙ sym iota-apart

    -- h of the removal
    module _ (z : List ℕ) (hz : Vector K (coordinates B (suc k)) z) where
      abbrev lowered : List ℕ
      lowered = removal_h K u r k z

      lowered-vector : Vector K (coordinates B k) lowered
      lowered-vector = on_cochains.h-cochain K u r p k z hz

      other-zeros : (c : ℕ) → IsLive c → c ≢ x → term lowered c ≡ zeros m
      other-zeros c h n = elim (cases_eq (degree c) k) [
        | inl e ↦
            ap (λ v. combination K m v (Q c)) (on_cochains.h-value K u r p k z hz c h e
            ∙ at_cells.lower-other K u r p (on_cochains.spread K u r p (suc k) z hz)
            (on_cochains.spread-vector K u r p (suc k) z hz) c n)
            ∙ combination-zeros K F (size c) (size c) m (Q c) (shape c h e)
        | inr d ↦ term-none lowered c (no_value lowered lowered-vector c h d)
      ]

      h-apart : combination K m lowered (flat_map (λ (t : Cell). Q t.cell) (of_degree k u.live)) ≡ term lowered x
      h-apart =
          apart lowered lowered-vector (other-zeros y removal.pair.to (at_cells.distinct K u r p))
          ∙ ap (plus K (term lowered x))
          (sum_over-equal K F m (term lowered) (λ c. zeros m) (cells w.live)
          (λ c h. other-zeros c (is-live c h) (at_cells.left-not_x K u r p (on_cochains.spread K u r p (suc k) z hz)
          (on_cochains.spread-vector K u r p (suc k) z hz) c h))
          ∙ sum_over-zeros K F m (λ c. zeros m) (cells w.live) (λ c. refl))
          ∙ plus-zeros K F m (term lowered x) (term-vector lowered lowered-vector x)

      pub h-here : degree x ≡ k → combination K m (removal_h K u r k z)
          (flat_map (λ (t : Cell). Q t.cell) (of_degree k u.live))
          ≡ combination K m (image_of K a (cochain_value u (suc k) z y)) (Q x)
      h-here e =
          h-apart
          ∙ ap (λ v. combination K m v (Q x)) (on_cochains.h-value K u r p k z hz x removal.pair.from e
          ∙ at_cells.lower-x K u r p (on_cochains.spread K u r p (suc k) z hz)
          (on_cochains.spread-vector K u r p (suc k) z hz)
          ∙ ap (image_of K a) (on_cochains.spread-here K u r p (suc k) z hz y (omega (arith, removal.pair.degrees, e))))

      pub h-elsewhere : degree x ≢ k → combination K m (removal_h K u r k z)
          (flat_map (λ (t : Cell). Q t.cell) (of_degree k u.live)) ≡ zeros m
      h-elsewhere n = h-apart ∙ term-none lowered x (no_value lowered lowered-vector x removal.pair.from n)
