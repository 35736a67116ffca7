-- Maps that meet the four equations: the identity, composites, and the matrices of maps.
use Rattle.std.proofs.Common.{◌≡◌, ℕ, zero, suc, List, refl, sym, ap, ap₂, ◌∙◌}
use Rattle.dense_blocks.specs.Field.{Ops}
use Rattle.dense_blocks.specs.FieldLaws.{IsField}
use Rattle.dense_blocks.specs.Vectors.{zeros, plus}
use Rattle.dense_blocks.specs.Matrices.{image_of, product}
use Rattle.dense_blocks.proofs.Shapes.{Vector, to_vector, from_vector, to_matrix, from_matrix}
use Rattle.dense_blocks.proofs.VectorLaws.{zeros-vector, plus-vector, plus-assoc, plus-comm, plus-cross, plus-zeros}
use Rattle.dense_blocks.proofs.VectorLaws.{zeros-plus-zeros}
use Rattle.dense_blocks.proofs.MatrixLaws.{product-matrix, product-image_of, matrix_sum-matrix, matrix_sum-image_of}
use Rattle.dense_blocks.proofs.LinearMaps.{IsLinear, linear-same, linear-zeros, linear-identity, linear-zero}
use Rattle.dense_blocks.proofs.LinearMaps.{linear-image_of, linear-then, linear-sum}
use Rattle.cochain_vec.specs.Complexes.{CellularComplex, coordinates, coboundary}
use Rattle.cochain_vec.specs.Shapes.{RowsFit}
use Rattle.cochain_vec.proofs.CoboundaryLaws.{coboundary-cochain, coboundary-plus, coboundary-zeros}
use Rattle.equivalence_laws.specs.Laws.{EquivalencesCompose}
use Rattle.equivalence_laws.specs.Equivalences.{GradedMap, d_h, MeetEquations, map_of, IsEquivalence, AreMatricesOf}
use Rattle.equivalence_laws.specs.Equivalences.{composite_pi, composite_iota, composite_h, GradedMatrix}

-- linear maps of cochains that meet the equations
pub record AreEquivalent (K : Ops) (C D : CellularComplex) (pi iota h : GradedMap) : Type 0 where
  pub pi_linear : (k : ℕ) → IsLinear K (coordinates D k) (coordinates C k) (pi k)
  pub iota_linear : (k : ℕ) → IsLinear K (coordinates C k) (coordinates D k) (iota k)
  pub h_linear : (k : ℕ) → IsLinear K (coordinates C k) (coordinates C (suc k)) (h k)
  pub equations : MeetEquations K C D pi iota h

module _ (K : Ops) (F : IsField K) where
  -- the identity, and zero
  pub identity-equivalent : (C : CellularComplex) → RowsFit C
      → AreEquivalent K C C (λ k z. z) (λ k z. z) (λ k z. zeros (coordinates C k))
  identity-equivalent C fits = record {
    pi_linear = λ k. linear-identity K F (coordinates C k);
    iota_linear = λ k. linear-identity K F (coordinates C k);
    h_linear = λ k. linear-zero K F (coordinates C k) (coordinates C (suc k));
    equations = record {
      pi_d = λ k z hz. refl;
      d_iota = λ k z hz. refl;
      pi_iota = λ k z hz. refl;
      homotopy = λ k z hz. sym (plus-zeros K F (coordinates C k) z (to_vector K (coordinates C k) z hz))
          ∙ ap (plus K z) (sym (ap (λ u. plus K u (zeros (coordinates C k))) (none k z)
          ∙ zeros-plus-zeros K F (coordinates C k)));
    };
  }
    where
      none : (k : ℕ) (z : List ℕ) → d_h K C (λ k z. zeros (coordinates C k)) k z ≡ zeros (coordinates C k)
      none zero z = refl
      none (suc k) z = coboundary-zeros K F C fits k

  -- one after the other
  module _ (C D E : CellularComplex) (fits : RowsFit C) (fits_D : RowsFit D) (p1 i1 h1 p2 i2 h2 : GradedMap)
      (e1 : AreEquivalent K C D p1 i1 h1) (e2 : AreEquivalent K D E p2 i2 h2) where
    abbrev after_pi : GradedMap
    after_pi k z = p2 k (p1 k z)

    abbrev after_iota : GradedMap
    after_iota k z = i1 k (i2 k z)

    abbrev after_h : GradedMap
    after_h k z = plus K (h1 k z) (i1 k (h2 k (p1 (suc k) z)))

    d-cochain : (C : CellularComplex) → RowsFit C → (k : ℕ) (z : List ℕ)
        → Vector K (coordinates C (suc k)) (coboundary K C k z)
    d-cochain C fits k z = coboundary-cochain K F C fits k z

    d_h-cochain : (C : CellularComplex) → RowsFit C → (h : GradedMap) (k : ℕ) (z : List ℕ)
        → Vector K (coordinates C k) (d_h K C h k z)
    d_h-cochain C fits h zero z = zeros-vector K F (coordinates C 0)
    d_h-cochain C fits h (suc k) z = d-cochain C fits k (h k z)

    h2-cochain : (k : ℕ) (z : List ℕ) → Vector K (coordinates C (suc k)) z
        → Vector K (coordinates D k) (h2 k (p1 (suc k) z))
    h2-cochain k z hz = (e2.h_linear k).vector (p1 (suc k) z) ((e1.pi_linear (suc k)).vector z hz)

    -- d' h2 pi1, carried by iota1, is d of the second part of h
    d_h-then : (k : ℕ) (z : List ℕ) → Vector K (coordinates C k) z
        → d_h K C after_h k z ≡ plus K (d_h K C h1 k z) (i1 k (d_h K D h2 k (p1 k z)))
    d_h-then zero z hz =
        sym (ap (plus K (zeros (coordinates C 0))) (linear-zeros K F (coordinates C 0) (coordinates D 0) (i1 0)
        (e1.iota_linear 0)) ∙ zeros-plus-zeros K F (coordinates C 0))
    d_h-then (suc k) z hz =
        let w = h2 k (p1 (suc k) z) in
        let hw : Vector K (coordinates D k) w = h2-cochain k z hz in
        coboundary-plus K F C fits k (h1 k z) (i1 k w) ((e1.h_linear k).vector z hz) ((e1.iota_linear k).vector w hw)
        ∙ ap (plus K (coboundary K C k (h1 k z))) (e1.equations.d_iota k w (from_vector K (coordinates D k) w hw))

    homotopy : (k : ℕ) (z : List ℕ) → Vector K (coordinates C k) z
        → z ≡ plus K (after_iota k (after_pi k z)) (plus K (d_h K C after_h k z) (after_h k (coboundary K C k z)))
    homotopy k z hz =
        let n = coordinates D k in
        let w : List ℕ = p1 k z in
        let hw : Vector K n w = (e1.pi_linear k).vector z hz in
        let hw' : Vector K n (i2 k (p2 k w)) = (e2.iota_linear k).vector (p2 k w) ((e2.pi_linear k).vector w hw) in
        let dw : List ℕ = coboundary K D k w in
        let below : List ℕ = d_h K D h2 k w in
        let above : List ℕ = h2 k dw in
        let below-cochain : Vector K n below = d_h-cochain D fits_D h2 k w in
        let above-cochain : Vector K n above = (e2.h_linear k).vector dw (d-cochain D fits_D k w) in
        let a : List ℕ = after_iota k (after_pi k z) in
        let b : List ℕ = i1 k below in
        let c : List ℕ = i1 k above in
        let d : List ℕ = d_h K C h1 k z in
        let e : List ℕ = h1 k (coboundary K C k z) in
        e1.equations.homotopy k z (from_vector K (coordinates C k) z hz)
        ∙ ap (λ u. plus K u (plus K d e))
        (ap (i1 k) (e2.equations.homotopy k w (from_vector K n w hw))
        ∙ (e1.iota_linear k).sums (i2 k (p2 k w)) (plus K below above) hw'
        (plus-vector K F n below above below-cochain above-cochain)
        ∙ ap (plus K a) ((e1.iota_linear k).sums below above below-cochain above-cochain))
        ∙ plus-assoc K F a (plus K b c) (plus K d e)
        ∙ ap (plus K a)
        (plus-comm K F (plus K b c) (plus K d e) ∙ plus-cross K F d e b c
        ∙ ap₂ (plus K) (sym (d_h-then k z hz))
        (ap (λ u. plus K e (i1 k (h2 k u))) (sym (e1.equations.pi_d k z (from_vector K (coordinates C k) z hz)))))

    pub composed-equivalent : AreEquivalent K C E after_pi after_iota after_h
    composed-equivalent = record {
      pi_linear = λ k. linear-then K F (coordinates E k) (coordinates D k) (coordinates C k) (p2 k) (p1 k)
          (e2.pi_linear k) (e1.pi_linear k);
      iota_linear = λ k. linear-then K F (coordinates C k) (coordinates D k) (coordinates E k) (i1 k) (i2 k)
          (e1.iota_linear k) (e2.iota_linear k);
      h_linear = λ k.
          let n = coordinates C (suc k) in
          let lifted : List ℕ → List ℕ = λ z. h2 k (p1 (suc k) z) in
          linear-sum K F (coordinates C k) n (h1 k) (λ z. i1 k (lifted z)) (e1.h_linear k)
          (linear-then K F (coordinates C k) (coordinates D k) n (i1 k) lifted (e1.iota_linear k)
          (linear-then K F (coordinates D k) (coordinates D (suc k)) n (h2 k) (p1 (suc k)) (e2.h_linear k)
          (e1.pi_linear (suc k))));
      equations = record {
        pi_d = λ k z hz.
            let w = p1 k z in
            let hw = from_vector K (coordinates D k) w ((e1.pi_linear k).vector z
            (to_vector K (coordinates C k) z hz)) in
            ap (p2 (suc k)) (e1.equations.pi_d k z hz) ∙ e2.equations.pi_d k w hw;
        d_iota = λ k z hz.
            let w = i2 k z in
            let hw = from_vector K (coordinates D k) w ((e2.iota_linear k).vector z
            (to_vector K (coordinates E k) z hz)) in
            e1.equations.d_iota k w hw ∙ ap (i1 (suc k)) (e2.equations.d_iota k z hz);
        pi_iota = λ k z hz.
            let w = i2 k z in
            let hw = from_vector K (coordinates D k) w ((e2.iota_linear k).vector z
            (to_vector K (coordinates E k) z hz)) in
            ap (p2 k) (e1.equations.pi_iota k w hw) ∙ e2.equations.pi_iota k z hz;
        homotopy = λ k z hz. homotopy k z (to_vector K (coordinates C k) z hz);
      };
    }

  -- the matrices of an equivalence
  map_of-equivalent : (C D : CellularComplex) (pi iota h : GradedMatrix) → IsEquivalence K C D pi iota h
      → AreEquivalent K C D (map_of K pi) (map_of K iota) (map_of K h)
  map_of-equivalent C D pi iota h e = record {
    pi_linear = λ k. linear-image_of K F (coordinates D k) (coordinates C k) (pi k)
        (to_matrix K (coordinates D k) (coordinates C k) (pi k) (e.pi_shape k));
    iota_linear = λ k. linear-image_of K F (coordinates C k) (coordinates D k) (iota k)
        (to_matrix K (coordinates C k) (coordinates D k) (iota k) (e.iota_shape k));
    h_linear = λ k. linear-image_of K F (coordinates C k) (coordinates C (suc k)) (h k)
        (to_matrix K (coordinates C k) (coordinates C (suc k)) (h k) (e.h_shape k));
    equations = e.equations;
  }

  -- matrices of maps that meet the equations meet them
  module _ (C D : CellularComplex) (fits : RowsFit C) (fits_D : RowsFit D) (p i l : GradedMap)
      (pi iota h : GradedMatrix) (e : AreEquivalent K C D p i l) (m : AreMatricesOf K C D p i l pi iota h) where
    d_h-same : (k : ℕ) (z : List ℕ) → Vector K (coordinates C k) z → d_h K C (map_of K h) k z ≡ d_h K C l k z
    d_h-same zero z hz = refl
    d_h-same (suc k) z hz = ap (coboundary K C k) ((m.h_is k).sends z (from_vector K (coordinates C (suc k)) z hz))

    pub matrices-equivalence : IsEquivalence K C D pi iota h
    matrices-equivalence = record {
      pi_shape = λ k. (m.pi_is k).shape;
      iota_shape = λ k. (m.iota_is k).shape;
      h_shape = λ k. (m.h_is k).shape;
      equations = record {
        pi_d = λ k z hz.
            (m.pi_is (suc k)).sends (coboundary K C k z) (from_vector K (coordinates C (suc k)) (coboundary K C k z)
            (coboundary-cochain K F C fits k z))
            ∙ e.equations.pi_d k z hz ∙ ap (coboundary K D k) (sym ((m.pi_is k).sends z hz));
        d_iota = λ k z hz.
            ap (coboundary K C k) ((m.iota_is k).sends z hz) ∙ e.equations.d_iota k z hz
            ∙ sym ((m.iota_is (suc k)).sends (coboundary K D k z)
            (from_vector K (coordinates D (suc k)) (coboundary K D k z) (coboundary-cochain K F D fits_D k z)));
        pi_iota = λ k z hz.
            let w = i k z in
            let hw = from_vector K (coordinates C k) w ((e.iota_linear k).vector z
            (to_vector K (coordinates D k) z hz)) in
            ap (image_of K (pi k)) ((m.iota_is k).sends z hz) ∙ (m.pi_is k).sends w hw ∙ e.equations.pi_iota k z hz;
        homotopy = λ k z hz.
            let cz = to_vector K (coordinates C k) z hz in
            let w = p k z in
            let hw = from_vector K (coordinates D k) w ((e.pi_linear k).vector z cz) in
            let dz = coboundary K C k z in
            e.equations.homotopy k z hz
            ∙ ap₂ (plus K) (sym (ap (image_of K (iota k)) ((m.pi_is k).sends z hz) ∙ (m.iota_is k).sends w hw))
            (ap₂ (plus K) (sym (d_h-same k z cz))
            (sym ((m.h_is k).sends dz (from_vector K (coordinates C (suc k)) dz (coboundary-cochain K F C fits k z)))));
      };
    }

  -- the products of matrices are the matrices of composites
  module _ (C D E : CellularComplex) (p1 i1 h1 p2 i2 h2 : GradedMatrix) (e1 : IsEquivalence K C D p1 i1 h1)
      (e2 : IsEquivalence K D E p2 i2 h2) where
    abbrev pi : GradedMatrix
    pi = composite_pi K C p1 p2

    abbrev iota : GradedMatrix
    iota = composite_iota K E i1 i2

    abbrev h : GradedMatrix
    h = composite_h K C p1 i1 h1 h2

    products-are : AreMatricesOf K C E (λ k z. map_of K p2 k (map_of K p1 k z))
        (λ k z. map_of K i1 k (map_of K i2 k z))
        (λ k z. plus K (map_of K h1 k z) (map_of K i1 k (map_of K h2 k (map_of K p1 (suc k) z)))) pi iota h
    products-are = record {
      pi_is = λ k.
          let a = to_matrix K (coordinates E k) (coordinates D k) (p2 k) (e2.pi_shape k) in
          let b = to_matrix K (coordinates D k) (coordinates C k) (p1 k) (e1.pi_shape k) in record {
            shape = from_matrix K (coordinates E k) (coordinates C k) (pi k)
                (product-matrix K F (coordinates E k) (coordinates D k) (coordinates C k) (p2 k) (p1 k) a b);
            sends = λ z hz. product-image_of K F (coordinates D k) (coordinates C k) (p2 k) (p1 k) z b;
          };
      iota_is = λ k.
          let a = to_matrix K (coordinates C k) (coordinates D k) (i1 k) (e1.iota_shape k) in
          let b = to_matrix K (coordinates D k) (coordinates E k) (i2 k) (e2.iota_shape k) in record {
            shape = from_matrix K (coordinates C k) (coordinates E k) (iota k)
                (product-matrix K F (coordinates C k) (coordinates D k) (coordinates E k) (i1 k) (i2 k) a b);
            sends = λ z hz. product-image_of K F (coordinates D k) (coordinates E k) (i1 k) (i2 k) z b;
          };
      h_is = λ k.
          let m = coordinates C k in
          let n = coordinates C (suc k) in
          let first = to_matrix K m n (h1 k) (e1.h_shape k) in
          let a = to_matrix K m (coordinates D k) (i1 k) (e1.iota_shape k) in
          let b = to_matrix K (coordinates D k) (coordinates D (suc k)) (h2 k) (e2.h_shape k) in
          let c = to_matrix K (coordinates D (suc k)) n (p1 (suc k)) (e1.pi_shape (suc k)) in
          let bc = product-matrix K F (coordinates D k) (coordinates D (suc k)) n (h2 k) (p1 (suc k)) b c in
          let inner = product K n (h2 k) (p1 (suc k)) in
          let second = product-matrix K F m (coordinates D k) n (i1 k) inner a bc in record {
            shape = from_matrix K m n (h k) (matrix_sum-matrix K F m n (h1 k) (product K n (i1 k) inner) first second);
            sends = λ z hz.
                matrix_sum-image_of K F m n (h1 k) (product K n (i1 k) inner) z first second
                ∙ ap (plus K (image_of K (h1 k) z))
                (product-image_of K F (coordinates D k) n (i1 k) inner z bc
                ∙ ap (image_of K (i1 k)) (product-image_of K F (coordinates D (suc k)) n (h2 k) (p1 (suc k)) z c));
          };
    }

pub equivalences_compose : EquivalencesCompose
equivalences_compose K C D E p1 i1 h1 p2 i2 h2 F fits fits_D fits_E e1 e2 =
    matrices-equivalence K F C E fits fits_E (λ k z. map_of K p2 k (map_of K p1 k z))
    (λ k z. map_of K i1 k (map_of K i2 k z))
    (λ k z. plus K (map_of K h1 k z) (map_of K i1 k (map_of K h2 k (map_of K p1 (suc k) z))))
    (composite_pi K C p1 p2) (composite_iota K E i1 i2) (composite_h K C p1 i1 h1 h2)
    (composed-equivalent K F C D E fits fits_D (map_of K p1) (map_of K i1) (map_of K h1) (map_of K p2) (map_of K i2)
    (map_of K h2)
    (map_of-equivalent K F C D p1 i1 h1 e1) (map_of-equivalent K F D E p2 i2 h2 e2))
    (products-are K F C D E p1 i1 h1 p2 i2 h2 e1 e2)

-- maps with the same values
module _ (K : Ops) (C D : CellularComplex) (p i h p' i' h' : GradedMap) (same_p : (k : ℕ) (z : List ℕ) → p k z ≡ p' k z)
    (same_i : (k : ℕ) (z : List ℕ) → i k z ≡ i' k z)
    (same_h : (k : ℕ) (z : List ℕ) → h k z ≡ h' k z) where
  same-d_h : (k : ℕ) (z : List ℕ) → d_h K C h k z ≡ d_h K C h' k z
  same-d_h zero z = refl
  same-d_h (suc k) z = ap (coboundary K C k) (same_h k z)

  pub equivalent-same : AreEquivalent K C D p i h → AreEquivalent K C D p' i' h'
  equivalent-same e = record {
    pi_linear = λ k. linear-same K (coordinates D k) (coordinates C k) (p k) (p' k) (same_p k) (e.pi_linear k);
    iota_linear = λ k. linear-same K (coordinates C k) (coordinates D k) (i k) (i' k) (same_i k) (e.iota_linear k);
    h_linear = λ k. linear-same K (coordinates C k) (coordinates C (suc k)) (h k) (h' k) (same_h k) (e.h_linear k);
    equations = record {
      pi_d = λ k z hz. sym (same_p (suc k) (coboundary K C k z)) ∙ e.equations.pi_d k z hz
          ∙ ap (coboundary K D k) (same_p k z);
      d_iota = λ k z hz. ap (coboundary K C k) (sym (same_i k z)) ∙ e.equations.d_iota k z hz
          ∙ same_i (suc k) (coboundary K D k z);
      pi_iota = λ k z hz. sym (ap (p k) (same_i k z) ∙ same_p k (i' k z)) ∙ e.equations.pi_iota k z hz;
      homotopy = λ k z hz.
          e.equations.homotopy k z hz
          ∙ ap₂ (plus K) (ap (i k) (same_p k z) ∙ same_i k (p' k z))
          (ap₂ (plus K) (same-d_h k z) (same_h k (coboundary K C k z)));
    };
  }
