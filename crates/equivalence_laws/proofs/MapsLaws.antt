-- The maps of a composite, cell by cell, with one removal more; and their matrices.
use Rattle.std.specs.List.{flat_map}
use Rattle.std.proofs.Common.{arith, ◌≡◌, ◌≢◌, ℕ, suc, Bool, true, false, cond, ◌&&◌, inl, inr, refl, sym, ap, ap₂, ◌∙◌}
use Rattle.std.proofs.Common.{subst, List, [], ◌∷◌, ◌++◌, All}
use Rattle.std.proofs.lemmas.Bool.{cases_eq}
use Rattle.dense_blocks.specs.Field.{Ops}
use Rattle.dense_blocks.specs.FieldLaws.{IsField}
use Rattle.dense_blocks.specs.Vectors.{zeros, plus, combination}
use Rattle.dense_blocks.specs.MatrixFacts.{IsMatrix, negative}
use Rattle.dense_blocks.specs.Matrices.{image_of}
use Rattle.dense_blocks.specs.LinearMaps.{IsMatrixOf}
use Rattle.dense_blocks.proofs.Shapes.{Vector, Matrix, to_vector, from_vector, to_matrix, from_matrix}
use Rattle.dense_blocks.proofs.VectorLaws.{plus-zeros}
use Rattle.dense_blocks.proofs.MatrixLaws.{image_of-vector}
use Rattle.cochain_vec.specs.declared.cell.Cell.{Cell}
use Rattle.cochain_vec.specs.Complexes.{CellularComplex, cells_of, coordinates}
use Rattle.cochain_vec.specs.CochainComplexes.{IsCochainComplex}
use Rattle.rising_lists.specs.Rising.{IsRising, has}
use Rattle.block_complexes.specs.BlockComplexes.{BlockComplex, IsBlockComplex, cells, degree_of, size_of}
use Rattle.block_complexes.specs.Cochains.{complex_of, of_degree}
use Rattle.block_complexes.proofs.FullLaws.{filled, same-filled}
use Rattle.equivalence_laws.specs.RemovalMaps.{Removal, IsRemovalFrom, cochain_value, removal_pi, removal_iota}
use Rattle.equivalence_laws.specs.RemovalMaps.{removal_h}
use Rattle.equivalence_laws.specs.Composites.{AreRemovals, IsComposite, rest_of, removals_pi, removals_iota, removals_h}
use Rattle.equivalence_laws.proofs.CellEquations.{IsSetting}
use Rattle.equivalence_laws.proofs.CochainValues.{cochain-joined, each-of_degree}
use Rattle.equivalence_laws.proofs.NextComposite.{IsDifferentialComplex, after_all, many, one, rest-more, pi-more}
use Rattle.equivalence_laws.proofs.NextComposite.{iota-more, h-more}
use Rattle.equivalence_laws.proofs.UpdateLaws.{image_of-joined, joined-matrix}
use Rattle.cochain_vec.proofs.CoboundaryLaws.{joined-same}
use Rattle.equivalence_laws.proofs.CompositeLaws as composite_laws
use Rattle.equivalence_laws.proofs.SameMaps as same_maps
use Rattle.equivalence_laws.proofs.RemovalEquations as on_cochains
use Rattle.equivalence_laws.proofs.CellEquations as at_cells
use Rattle.equivalence_laws.specs.Transposes.{transpose}
use Rattle.equivalence_laws.specs.CellMaps.{CellMaps, AreRowsAt, AreCellMapsBetween, AreCellMapsOf}
use Rattle.equivalence_laws.proofs.TransposeLaws.{transpose-matrix, image_of-transpose}
use Rattle.equivalence_laws.proofs.StepLaws as steps

-- what a removal from u makes of rows at cells, by what they do: the rows at cells of the degree of y take the rows at
-- y away, and the columns at cells of the degree of x those at x
pub record AreNextMaps (K : Ops) (C : CellularComplex) (u : BlockComplex) (r : Removal) (m m' : CellMaps) :
    Type 0 where
  pub live_is : m'.live ≡ r.rest.live
  pub pi_rows : AreRowsAt K C r.rest m'.pi
  pub pi_same : (c : ℕ) → has c (cells r.rest.live) ≡ true → degree_of u.live c ≢ degree_of u.live r.y → m'.pi c ≡ m.pi c
  pub pi_next : (c : ℕ) → has c (cells r.rest.live) ≡ true → degree_of u.live c ≡ degree_of u.live r.y
      → (z : List ℕ) → image_of K (m'.pi c) z ≡ plus K (image_of K (m.pi c) z)
      (negative K (image_of K (u.matrix r.x c) (image_of K r.inverse (image_of K (m.pi r.y) z))))
  pub iota_rows : AreRowsAt K C r.rest m'.iota
  pub iota_same : (c : ℕ) → has c (cells r.rest.live) ≡ true → degree_of u.live c ≢ degree_of u.live r.x
      → m'.iota c ≡ m.iota c
  pub iota_next : (c : ℕ) → has c (cells r.rest.live) ≡ true → degree_of u.live c ≡ degree_of u.live r.x
      → (z : List ℕ) → Vector K (size_of u.live c) z
      → combination K (coordinates C (degree_of u.live r.x)) z (m'.iota c)
      ≡ plus K (combination K (coordinates C (degree_of u.live r.x)) z (m.iota c))
      (negative K (combination K (coordinates C (degree_of u.live r.x))
      (image_of K r.inverse (image_of K (u.matrix c r.y) z)) (m.iota r.x)))
  pub h_shape : (k : ℕ) → IsMatrix K (coordinates C k) (coordinates C (suc k)) (m'.h k)
  pub h_same : (k : ℕ) → degree_of u.live r.x ≢ k → m'.h k ≡ m.h k
  pub h_next : (z : List ℕ) → Vector K (coordinates C (suc (degree_of u.live r.x))) z
      → image_of K (m'.h (degree_of u.live r.x)) z ≡ plus K (image_of K (m.h (degree_of u.live r.x)) z)
      (combination K (coordinates C (degree_of u.live r.x)) (image_of K r.inverse (image_of K (m.pi r.y) z))
      (m.iota r.x))

module _ (K : Ops) (F : IsField K) (v : BlockComplex) (rs : List Removal) (g : IsDifferentialComplex K v)
    (are : AreRemovals K v rs) where
  abbrev u : BlockComplex
  u = rest_of v rs

  abbrev C : CellularComplex
  C = complex_of v

  abbrev B : CellularComplex
  B = complex_of u

  u_is : IsDifferentialComplex K u
  u_is = after_all K F v rs g are

  -- the maps of one removal more
  module _ (r : Removal) (removal : IsRemovalFrom K u r) (m m' : CellMaps) (maps : AreCellMapsOf K v rs m)
      (next : AreNextMaps K C u r m m') where
    abbrev q : Removal
    q = composite_laws.filled_removal r

    abbrev D : CellularComplex
    D = complex_of r.rest

    setting : IsSetting K (filled u) q
    setting = composite_laws.setting K F u r u_is.is removal u_is.closed

    removal' : IsRemovalFrom K (filled u) q
    removal' = composite_laws.filled-removal K F u r u_is.is removal

    rises_rest : IsRising (cells r.rest.live)
    rises_rest = (composite_laws.rest_is K F u r u_is.is removal).rising

    pi-filled : (k : ℕ) (z : List ℕ) → removal_pi K u r k z ≡ removal_pi K (filled u) q k z
    pi-filled k z = same_maps.same-pi K u (filled u) (same-filled u) r.x r.y r.inverse r.rest q.rest removal removal'
        rises_rest k z

    iota-filled : (k : ℕ) (z : List ℕ) → removal_iota K u r k z ≡ removal_iota K (filled u) q k z
    iota-filled k z = same_maps.same-iota K u (filled u) (same-filled u) r.x r.y r.inverse r.rest q.rest removal
        removal' rises_rest k z

    h-filled : (k : ℕ) (z : List ℕ) → removal_h K u r k z ≡ removal_h K (filled u) q k z
    h-filled k z = same_maps.same-h K u (filled u) (same-filled u) r.x r.y r.inverse r.rest q.rest removal removal'
        rises_rest k z

    is-live : (c : ℕ) → has c (cells r.rest.live) ≡ true → has c (cells u.live) ≡ true
    is-live c h = on_cochains.left-live K (filled u) q setting c h

    from_x : (c : ℕ) → has c (cells r.rest.live) ≡ true → u.matrix r.x c ≡ (filled u).matrix r.x c
    from_x c h = sym ((same-filled u).matrices r.x c (record { from = removal.pair.from; to = is-live c h }))

    to_y : (c : ℕ) → has c (cells r.rest.live) ≡ true → u.matrix c r.y ≡ (filled u).matrix c r.y
    to_y c h = sym ((same-filled u).matrices c r.y (record { from = is-live c h; to = removal.pair.to }))

    -- a shape by the degree
    rows-of : (rows : ℕ → List (List ℕ)) → AreRowsAt K C u rows → (k c : ℕ) → has c (cells u.live) ≡ true
        → degree_of u.live c ≡ k → Matrix K (size_of u.live c) (coordinates C k) (rows c)
    rows-of rows h k c live e =
        subst (λ d. Matrix K (size_of u.live c) (coordinates C d) (rows c)) e
        (to_matrix K (size_of u.live c) (coordinates C (degree_of u.live c)) (rows c) (h c live))

    rows-left : (rows : ℕ → List (List ℕ)) → AreRowsAt K C r.rest rows → (k c : ℕ) → has c (cells r.rest.live) ≡ true
        → degree_of u.live c ≡ k → Matrix K (size_of u.live c) (coordinates C k) (rows c)
    rows-left rows h k c left e =
        subst (λ n. Matrix K n (coordinates C k) (rows c)) (on_cochains.left-size K (filled u) q setting c left)
        (subst (λ d. Matrix K (size_of r.rest.live c) (coordinates C d) (rows c))
        (on_cochains.left-degree K (filled u) q setting c left ∙ e)
        (to_matrix K (size_of r.rest.live c) (coordinates C (degree_of r.rest.live c)) (rows c) (h c left)))

    pi-vector : (k : ℕ) (z : List ℕ) → Vector K (coordinates C k) z → Vector K (coordinates B k) (removals_pi K v rs k z)
    pi-vector k z hz = ((many K F v rs g are).pi_linear k).vector z hz

    abbrev more : List Removal
    more = rs ++ r ∷ []

    -- pi z at a cell that is left
    next-pi : (k : ℕ) (z : List ℕ) → Vector K (coordinates C k) z → (c : ℕ) → has c (cells r.rest.live) ≡ true
        → degree_of r.rest.live c ≡ k → image_of K (m'.pi c) z ≡ cochain_value r.rest k (removals_pi K v more k z) c
    next-pi k z hz c left e =
        let w = removals_pi K v rs k z in
        steps.pi-next K (filled u) q setting k m.pi m'.pi z w (pi-vector k z hz)
        (λ c live e. maps.pi_is k z (from_vector K (coordinates C k) z hz) c live e)
        next.pi_same
        (λ c left e. next.pi_next c left e z
        ∙ ap (λ A. plus K (image_of K (m.pi c) z) (negative K (image_of K A (image_of K r.inverse
        (image_of K (m.pi r.y) z))))) (from_x c left))
        c left (sym (on_cochains.left-degree K (filled u) q setting c left) ∙ e)
        ∙ ap (λ s. cochain_value r.rest k s c) (sym (pi-filled k w) ∙ sym (pi-more K F v rs r k z))

    next-iota : (k : ℕ) (z : List ℕ) → Vector K (coordinates D k) z
        → combination K (coordinates C k) z (flat_map (λ (t : Cell). m'.iota t.cell) (cells_of D k))
        ≡ removals_iota K v more k z
    next-iota k z hz =
        let w = removal_iota K (filled u) q k z in
        let hw : Vector K (coordinates B k) w = on_cochains.iota-cochain K (filled u) q setting k z hz in
        steps.iota-next K (filled u) q setting k (coordinates C k) m.iota (rows-of m.iota maps.iota_rows k) z hz m'.iota
        (rows-left m'.iota next.iota_rows k) next.iota_same
        (λ here c left e s hs.
        subst (λ d. combination K (coordinates C d) s (m'.iota c)
        ≡ plus K (combination K (coordinates C d) s (m.iota c)) (negative K (combination K (coordinates C d)
        (image_of K r.inverse (image_of K ((filled u).matrix c r.y) s)) (m.iota r.x)))) here
        (next.iota_next c left (e ∙ sym here) s hs
        ∙ ap (λ A. plus K (combination K (coordinates C (degree_of u.live r.x)) s (m.iota c)) (negative K
        (combination K (coordinates C (degree_of u.live r.x)) (image_of K r.inverse (image_of K A s))
        (m.iota r.x)))) (to_y c left)))
        ∙ maps.iota_is k w (from_vector K (coordinates B k) w hw)
        ∙ ap (removals_iota K v rs k) (sym (iota-filled k z))
        ∙ sym (iota-more K F v rs r k z)

    next-h : (k : ℕ) (z : List ℕ) → Vector K (coordinates C (suc k)) z → image_of K (m'.h k) z
        ≡ removals_h K v more k z
    next-h k z hz =
        let w = removals_pi K v rs (suc k) z in
        let hw = pi-vector (suc k) z hz in
        let lowered = removal_h K (filled u) q k w in
        let n = coordinates C k in
        let hl : Vector K (coordinates B k) lowered = on_cochains.h-cochain K (filled u) q setting k w hw in
        let iz = from_vector K (coordinates C (suc k)) z hz in
        let rows = rows-of m.iota maps.iota_rows k in
        let is : combination K n lowered (flat_map (λ (t : Cell). m.iota t.cell) (cells_of B k))
        ≡ removals_iota K v rs k (removal_h K u r k w) =
        maps.iota_is k lowered (from_vector K (coordinates B k) lowered hl)
        ∙ ap (removals_iota K v rs k) (sym (h-filled k w)) in
        let whole = h-more K F v rs r g are removal k z hz in
        elim (cases_eq (degree_of u.live r.x) k) [
          | inl here ↦
              subst (λ d. image_of K (m'.h d) z ≡ plus K (image_of K (m.h d) z)
              (combination K (coordinates C d) (image_of K r.inverse (image_of K (m.pi r.y) z)) (m.iota r.x))) here
              (next.h_next z (subst (λ d. Vector K (coordinates C (suc d)) z) (sym here) hz))
              ∙ ap₂ (λ s t. plus K s (combination K n (image_of K r.inverse t) (m.iota r.x)))
              ((maps.h_is k).sends z iz)
              (maps.pi_is (suc k) z iz r.y removal.pair.to (omega (arith, removal.pair.degrees, here)))
              ∙ ap (plus K (removals_h K v rs k z))
              (sym (steps.h-here K (filled u) q setting k n m.iota rows w hw here) ∙ is)
              ∙ sym whole
          | inr d ↦
              ap (λ A. image_of K A z) (next.h_same k d) ∙ (maps.h_is k).sends z iz
              ∙ sym (plus-zeros K F n (removals_h K v rs k z)
              (((many K F v rs g are).h_linear k).vector z hz))
              ∙ ap (plus K (removals_h K v rs k z))
              (sym (steps.h-elsewhere K (filled u) q setting k n m.iota rows w hw d) ∙ is)
              ∙ sym whole
        ]

    pub next_maps : AreCellMapsOf K v (rs ++ r ∷ []) m'
    next_maps =
        subst (λ w. AreCellMapsBetween K v w (removals_pi K v more) (removals_iota K v more) (removals_h K v more) m')
        (sym (rest-more v rs r))
        (record {
          live_is = next.live_is;
          pi_rows = next.pi_rows;
          pi_is = λ k z hz c left e. next-pi k z (to_vector K (coordinates C k) z hz) c left e;
          iota_rows = next.iota_rows;
          iota_is = λ k z hz. next-iota k z (to_vector K (coordinates D k) z hz);
          h_is = λ k. record {
            shape = next.h_shape k;
            sends = λ z hz. next-h k z (to_vector K (coordinates C (suc k)) z hz);
          };
        })

  -- the matrices of the maps: the rows at the cells that are left, one after another
  module _ (m : CellMaps) (maps : AreCellMapsOf K v rs m) where
    shapes : (rows : ℕ → List (List ℕ)) → AreRowsAt K C u rows → (k : ℕ)
        → All (λ (t : Cell). Matrix K t.size (coordinates C k) (rows t.cell)) (cells_of B k)
    shapes rows h k =
        each-of_degree u u_is.is.rising k (λ (t : Cell). Matrix K t.size (coordinates C k) (rows t.cell))
        (λ t live e is. subst (λ n. Matrix K n (coordinates C k) (rows t.cell)) is
        (subst (λ d. Matrix K (size_of u.live t.cell) (coordinates C d) (rows t.cell)) e
        (to_matrix K (size_of u.live t.cell) (coordinates C (degree_of u.live t.cell)) (rows t.cell)
        (h t.cell live))))

    gathered : (rows : ℕ → List (List ℕ)) → AreRowsAt K C u rows → (k : ℕ)
        → Matrix K (coordinates B k) (coordinates C k) (flat_map (λ (t : Cell). rows t.cell) (cells_of B k))
    gathered rows h k = joined-matrix K (λ (t : Cell). rows t.cell) (coordinates C k) (cells_of B k) (shapes rows h k)

    pub maps_composite : IsComposite K v rs (λ k. flat_map (λ (t : Cell). m.pi t.cell) (cells_of B k))
        (λ k. transpose (coordinates C k) (flat_map (λ (t : Cell). m.iota t.cell) (cells_of B k))) m.h
    maps_composite = record {
      pi_is = λ k. record {
        shape = from_matrix K (coordinates B k) (coordinates C k) (flat_map (λ (t : Cell). m.pi t.cell) (cells_of B k))
            (gathered m.pi maps.pi_rows k);
        sends = λ z hz.
            let w = removals_pi K v rs k z in
            let hw = ((many K F v rs g are).pi_linear k).vector z (to_vector K (coordinates C k) z hz) in
            image_of-joined K (λ (t : Cell). m.pi t.cell) (cells_of B k) z
            ∙ joined-same (λ (t : Cell). image_of K (m.pi t.cell) z) (λ (t : Cell). cochain_value u k w t.cell)
            (cells_of B k)
            (each-of_degree u u_is.is.rising k (λ (t : Cell). image_of K (m.pi t.cell) z ≡ cochain_value u k w t.cell)
            (λ t live e is. maps.pi_is k z hz t.cell live e))
            ∙ sym (cochain-joined u u_is.is.rising k K w hw);
      };
      iota_is = λ k.
          let A = flat_map (λ (t : Cell). m.iota t.cell) (cells_of B k) in
          let hA = gathered m.iota maps.iota_rows k in record {
            shape = from_matrix K (coordinates C k) (coordinates B k) (transpose (coordinates C k) A)
                (transpose-matrix K F (coordinates B k) (coordinates C k) A hA);
            sends = λ z hz.
                image_of-transpose K F (coordinates B k) (coordinates C k) A z hA (to_vector K (coordinates B k) z hz)
                ∙ maps.iota_is k z hz;
          };
      h_is = maps.h_is;
    }
