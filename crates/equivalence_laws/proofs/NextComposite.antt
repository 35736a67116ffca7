-- The composite with one removal more at the end.
use Rattle.std.proofs.Common.{◌≡◌, ℕ, suc, List, [], ◌∷◌, ◌++◌, refl, sym, ap, ap₂, ◌∙◌, subst}
use Rattle.dense_blocks.specs.Field.{Ops}
use Rattle.dense_blocks.specs.FieldLaws.{IsField}
use Rattle.dense_blocks.specs.Vectors.{zeros, plus}
use Rattle.dense_blocks.specs.Matrices.{image_of}
use Rattle.dense_blocks.proofs.Shapes.{Vector, to_vector, from_vector}
use Rattle.dense_blocks.proofs.VectorLaws.{plus-assoc, plus-comm}
use Rattle.dense_blocks.proofs.LinearMaps.{linear-zeros}
use Rattle.cochain_vec.specs.Complexes.{coordinates}
use Rattle.cochain_vec.specs.CochainComplexes.{IsCochainComplex}
use Rattle.block_complexes.specs.BlockComplexes.{BlockComplex, IsBlockComplex}
use Rattle.block_complexes.specs.Cochains.{complex_of}
use Rattle.equivalence_laws.specs.Equivalences.{AreMatricesOf}
use Rattle.equivalence_laws.specs.RemovalMaps.{Removal, removal_pi, removal_iota, removal_h, IsRemovalFrom}
use Rattle.equivalence_laws.specs.Composites.{AreRemovals, rest_of, removals_pi, removals_iota, removals_h}
use Rattle.equivalence_laws.specs.Laws.{NextIsComposite}
use Rattle.equivalence_laws.proofs.CompositionLaws.{AreEquivalent}
use Rattle.equivalence_laws.proofs.CompositeLaws.{rest_is, removal-equivalent, removals-equivalent}
use Rattle.removals.proofs.RemovalLaws as removals

pub rest-more : (v : BlockComplex) (rs : List Removal) (r : Removal) → rest_of v (rs ++ r ∷ []) ≡ r.rest
rest-more v [] r = refl
rest-more v (q ∷ qs) r = rest-more q.rest qs r

-- a block complex over the field in which the coboundary of each coboundary is zero
pub record IsDifferentialComplex (K : Ops) (v : BlockComplex) : Type 0 where
  pub is : IsBlockComplex K v
  pub closed : IsCochainComplex K (complex_of v)

module _ (K : Ops) (F : IsField K) where
  after_one : (v : BlockComplex) (r : Removal) → IsDifferentialComplex K v → IsRemovalFrom K v r
      → IsDifferentialComplex K r.rest
  after_one v r g removal = record {
    is = rest_is K F v r g.is removal;
    closed = removals.removal_keeps_cochain_complex K v r.rest r.x r.y r.inverse F g.is removal g.closed;
  }

  pub after_all : (v : BlockComplex) (rs : List Removal) → IsDifferentialComplex K v → AreRemovals K v rs
      → IsDifferentialComplex K (rest_of v rs)
  after_all v [] g h = g
  after_all v (r ∷ rs) g h = after_all r.rest rs (after_one v r g h.0) h.1

  pub one : (v : BlockComplex) (r : Removal) → IsDifferentialComplex K v → IsRemovalFrom K v r
      → AreEquivalent K (complex_of v) (complex_of r.rest) (removal_pi K v r) (removal_iota K v r) (removal_h K v r)
  one v r g removal = removal-equivalent K F v r g.is removal g.closed

  pub many : (v : BlockComplex) (rs : List Removal) → IsDifferentialComplex K v → AreRemovals K v rs
      → AreEquivalent K (complex_of v) (complex_of (rest_of v rs)) (removals_pi K v rs) (removals_iota K v rs)
      (removals_h K v rs)
  many v rs g h = removals-equivalent K F v rs g.is g.closed h

  pub pi-more : (v : BlockComplex) (rs : List Removal) (r : Removal) (k : ℕ) (z : List ℕ)
      → removals_pi K v (rs ++ r ∷ []) k z ≡ removal_pi K (rest_of v rs) r k (removals_pi K v rs k z)
  pi-more v [] r k z = refl
  pi-more v (q ∷ qs) r k z = pi-more q.rest qs r k (removal_pi K v q k z)

  pub iota-more : (v : BlockComplex) (rs : List Removal) (r : Removal) (k : ℕ) (z : List ℕ)
      → removals_iota K v (rs ++ r ∷ []) k z ≡ removals_iota K v rs k (removal_iota K (rest_of v rs) r k z)
  iota-more v [] r k z = refl
  iota-more v (q ∷ qs) r k z = ap (removal_iota K v q k) (iota-more q.rest qs r k z)

  pub h-more : (v : BlockComplex) (rs : List Removal) (r : Removal) → IsDifferentialComplex K v → AreRemovals K v rs
      → IsRemovalFrom K (rest_of v rs) r
      → (k : ℕ) (z : List ℕ) → Vector K (coordinates (complex_of v) (suc k)) z
      → removals_h K v (rs ++ r ∷ []) k z ≡ plus K (removals_h K v rs k z)
      (removals_iota K v rs k (removal_h K (rest_of v rs) r k (removals_pi K v rs (suc k) z)))
  h-more v [] r g h removal k z hz =
      let e = one v r g removal in
      let C = complex_of v in
      let D = complex_of r.rest in
      ap (plus K (removal_h K v r k z)) (linear-zeros K F (coordinates C k) (coordinates D k) (removal_iota K v r k)
      (e.iota_linear k))
      ∙ plus-comm K F (removal_h K v r k z) (zeros (coordinates C k))
  h-more v (q ∷ qs) r g h removal k z hz =
      let e = one v q g h.0 in
      let g' = after_one v q g h.0 in
      let es = many q.rest qs g' h.1 in
      let last = one (rest_of q.rest qs) r (after_all q.rest qs g' h.1) removal in
      let pz = removal_pi K v q (suc k) z in
      let hp = (e.pi_linear (suc k)).vector z hz in
      let first = removals_h K q.rest qs k pz in
      let bottom = removals_pi K q.rest qs (suc k) pz in
      let lowered = removal_h K (rest_of q.rest qs) r k bottom in
      let second = removals_iota K q.rest qs k lowered in
      ap (λ u. plus K (removal_h K v q k z) (removal_iota K v q k u)) (h-more q.rest qs r g' h.1 removal k pz hp)
      ∙ ap (plus K (removal_h K v q k z))
      ((e.iota_linear k).sums first second ((es.h_linear k).vector pz hp)
      ((es.iota_linear k).vector lowered ((last.h_linear k).vector bottom ((es.pi_linear (suc k)).vector pz hp))))
      ∙ sym (plus-assoc K F (removal_h K v q k z) (removal_iota K v q k first) (removal_iota K v q k second))

pub next_is_composite : NextIsComposite
next_is_composite K v F is closed rs r pi iota h pi' iota' h' are removal m s =
    let C = complex_of v in
    let B = complex_of (rest_of v rs) in
    let all = rs ++ r ∷ [] in
    let D = complex_of r.rest in
    let g : IsDifferentialComplex K v = record { is = is; closed = closed } in
    let es = many K F v rs g are in
    let last = one K F (rest_of v rs) r (after_all K F v rs g are) removal in
    subst (λ u. AreMatricesOf K C (complex_of u) (removals_pi K v all) (removals_iota K v all)
    (removals_h K v all) pi' iota' h') (sym (rest-more v rs r))
    (record {
      pi_is = λ k. record {
        shape = (s.pi_is k).shape;
        sends = λ z hz. (s.pi_is k).sends z hz ∙ ap (removal_pi K (rest_of v rs) r k) ((m.pi_is k).sends z hz)
            ∙ sym (pi-more K F v rs r k z);
      };
      iota_is = λ k. record {
        shape = (s.iota_is k).shape;
        sends = λ z hz.
            let w = removal_iota K (rest_of v rs) r k z in
            let hw = from_vector K (coordinates B k) w ((last.iota_linear k).vector z
            (to_vector K (coordinates D k) z hz)) in
            (s.iota_is k).sends z hz ∙ (m.iota_is k).sends w hw ∙ sym (iota-more K F v rs r k z);
      };
      h_is = λ k. record {
        shape = (s.h_is k).shape;
        sends = λ z hz.
            let cz = to_vector K (coordinates C (suc k)) z hz in
            let w = removals_pi K v rs (suc k) z in
            let cw = (es.pi_linear (suc k)).vector z cz in
            let lowered = removal_h K (rest_of v rs) r k w in
            let hl = from_vector K (coordinates B k) lowered ((last.h_linear k).vector w cw) in
            (s.h_is k).sends z hz
            ∙ ap₂ (plus K) ((m.h_is k).sends z hz)
            (ap (λ u. image_of K (iota k) (removal_h K (rest_of v rs) r k u)) ((m.pi_is (suc k)).sends z hz)
            ∙ (m.iota_is k).sends lowered hl)
            ∙ sym (h-more K F v rs r g are removal k z cz);
      };
    })
