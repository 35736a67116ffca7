-- The composite of removals depends on the first block complex and on the pairs alone.
use Rattle.std.proofs.Common.{◌≡◌, ℕ, suc, refl, sym, ap, ap₂, ◌∙◌, subst, List, ◌∷◌, get_or, drop, []}
use Rattle.dense_blocks.specs.Field.{Ops}
use Rattle.dense_blocks.specs.FieldLaws.{IsField}
use Rattle.dense_blocks.specs.Vectors.{zeros, plus}
use Rattle.dense_blocks.specs.MatrixFacts.{IsMatrix, IsInverse}
use Rattle.dense_blocks.proofs.Shapes.{Matrix, to_matrix}
use Rattle.dense_blocks.proofs.MatrixLaws.{inverse-unique}
use Rattle.cochain_vec.specs.Complexes.{CellularComplex, coordinates}
use Rattle.block_complexes.specs.BlockComplexes.{BlockComplex, IsBlockComplex, HaveSameMatrices, size_of}
use Rattle.block_complexes.proofs.SameLaws.{same-sym, same-complex}
use Rattle.removals.specs.Removals.{IsRemoval}
use Rattle.removals.proofs.SameRemovals.{removal-same-before}
use Rattle.equivalence_laws.specs.Equivalences.{AreMatricesOf, GradedMatrix}
use Rattle.equivalence_laws.specs.RemovalMaps.{Removal, removal_pi, removal_iota, removal_h, IsRemovalFrom}
use Rattle.equivalence_laws.specs.Composites.{AreRemovals, removal_pairs, rest_of}
use Rattle.equivalence_laws.specs.Composites.{removals_pi, removals_iota, removals_h}
use Rattle.equivalence_laws.specs.Composites.{IsComposite}
use Rattle.equivalence_laws.proofs.SameMaps.{rest-same, same-pi, same-iota, same-h}
use Rattle.equivalence_laws.proofs.CompositeLaws.{rest_is}

module _ (K : Ops) (F : IsField K) where
  -- the maps of both
  record MapsAgree (v v' : BlockComplex) (rs qs : List Removal) : Type 0 where
    last : HaveSameMatrices (rest_of v rs) (rest_of v' qs)
    pi : (k : ℕ) (z : List ℕ) → removals_pi K v rs k z ≡ removals_pi K v' qs k z
    iota : (k : ℕ) (z : List ℕ) → removals_iota K v rs k z ≡ removals_iota K v' qs k z
    h : (k : ℕ) (z : List ℕ) → removals_h K v rs k z ≡ removals_h K v' qs k z

  maps-agree : (rs qs : List Removal) (v v' : BlockComplex) → HaveSameMatrices v v' → IsBlockComplex K v
      → AreRemovals K v rs → AreRemovals K v' qs
      → removal_pairs rs ≡ removal_pairs qs → MapsAgree v v' rs qs
  maps-agree [] [] v v' same is h h' e = record {
    last = same;
    pi = λ k z. refl;
    iota = λ k z. refl;
    h = λ k z. ap (λ C. zeros (coordinates C k)) (sym (same-complex v v' same));
  }
  maps-agree [] (q ∷ qs) v v' same is h h' e = cc
  maps-agree (r ∷ rs) [] v v' same is h h' e = cc
  maps-agree (r ∷ rs) (q ∷ qs) v v' same is h h' e =
      let same-x : r.x ≡ q.x = ap (λ (ps : List (ℕ × ℕ)). (get_or {A = ℕ × ℕ} ps 0 (0, 0)).0) e in
      let same-y : r.y ≡ q.y = ap (λ (ps : List (ℕ × ℕ)). (get_or {A = ℕ × ℕ} ps 0 (0, 0)).1) e in
      let n = size_of v.live r.x in
      let shape = is.matrices r.x r.y (record { from = h.0.pair.from; to = h.0.pair.to }) in
      let square : Matrix K n n (v.matrix r.x r.y) =
      to_matrix K n n (v.matrix r.x r.y) (subst (λ m. IsMatrix K m n (v.matrix r.x r.y)) h.0.square shape) in
      let with_pair : Removal = record { x = r.x; y = r.y; inverse = q.inverse; rest = q.rest } in
      let pairs : with_pair ≡ q =
      ap₂ (λ x y. record { x = x; y = y; inverse = q.inverse; rest = q.rest }) same-x same-y in
      let removal' : IsRemoval K v' r.x r.y q.inverse q.rest =
      subst (IsRemovalFrom K v') (sym pairs) h'.0 in
      let inverse' : IsInverse K n (v.matrix r.x r.y) q.inverse =
      (removal-same-before K v' v r.x r.y q.inverse q.rest (same-sym v v' same) removal').inverse in
      let inverses : r.inverse ≡ q.inverse = inverse-unique K F n
      (v.matrix r.x r.y) r.inverse q.inverse square h.0.inverse inverse' in
      let with_all : Removal = record { x = r.x; y = r.y; inverse = r.inverse; rest = q.rest } in
      let is_q : with_all ≡ q = ap (λ a. record { x = r.x; y = r.y; inverse = a; rest = q.rest }) inverses ∙ pairs in
      let removal'' : IsRemoval K v' r.x r.y r.inverse q.rest =
      subst (λ a. IsRemoval K v' r.x r.y a q.rest) (sym inverses) removal' in
      let is_rest = rest_is K F v r is h.0 in
      let rest = maps-agree rs qs r.rest q.rest (rest-same K v v' same r.x r.y r.inverse r.rest q.rest h.0 removal''
      is_rest.rising) is_rest h.1 h'.1 (ap (drop 1) e) in
      let one_pi : (k : ℕ) (z : List ℕ) → removal_pi K v r k z ≡ removal_pi K v' q k z =
      λ k z. same-pi K v v' same r.x r.y r.inverse r.rest q.rest h.0 removal'' is_rest.rising k z
      ∙ ap (λ t. removal_pi K v' t k z) is_q in
      let one_iota : (k : ℕ) (z : List ℕ) → removal_iota K v r k z ≡ removal_iota K v' q k z =
      λ k z. same-iota K v v' same r.x r.y r.inverse r.rest q.rest h.0 removal'' is_rest.rising k z
      ∙ ap (λ t. removal_iota K v' t k z) is_q in
      let one_h : (k : ℕ) (z : List ℕ) → removal_h K v r k z ≡ removal_h K v' q k z =
      λ k z. same-h K v v' same r.x r.y r.inverse r.rest q.rest h.0 removal'' is_rest.rising k z
      ∙ ap (λ t. removal_h K v' t k z) is_q in
      record {
        last = rest.last;
        pi = λ k z. ap (removals_pi K r.rest rs k) (one_pi k z) ∙ rest.pi k (removal_pi K v' q k z);
        iota = λ k z. ap (removal_iota K v r k) (rest.iota k z) ∙ one_iota k (removals_iota K q.rest qs k z);
        h = λ k z.
            ap₂ (plus K) (one_h k z)
            (ap (λ u. removal_iota K v r k (removals_h K r.rest rs k u)) (one_pi (suc k) z)
            ∙ ap (removal_iota K v r k) (rest.h k (removal_pi K v' q (suc k) z))
            ∙ one_iota k (removals_h K q.rest qs k (removal_pi K v' q (suc k) z)));
      }

pub composite_is_of_pairs : (K : Ops) (v v' : BlockComplex) (rs qs : List Removal)
    (pi iota h : GradedMatrix) → IsField K → IsBlockComplex K v → HaveSameMatrices v v' → AreRemovals K v rs
    → AreRemovals K v' qs → removal_pairs rs ≡ removal_pairs qs → IsComposite K v rs pi iota h
    → IsComposite K v' qs pi iota h
composite_is_of_pairs K v v' rs qs pi iota h F is same are are' pairs m =
    let e = maps-agree K F rs qs v v' same is are are' pairs in
    let C = sym (same-complex v v' same) in
    let D = sym (same-complex (rest_of v rs) (rest_of v' qs) e.last) in
    carried C D (record {
      pi_is = λ k. record { shape = (m.pi_is k).shape; sends = λ z hz. (m.pi_is k).sends z hz ∙ e.pi k z };
      iota_is = λ k. record { shape = (m.iota_is k).shape; sends = λ z hz. (m.iota_is k).sends z hz ∙ e.iota k z };
      h_is = λ k. record { shape = (m.h_is k).shape; sends = λ z hz. (m.h_is k).sends z hz ∙ e.h k z };
    })
  where
    carried : {C C' D D' : CellularComplex} → C ≡ C' → D ≡ D'
        → AreMatricesOf K C D (removals_pi K v' qs) (removals_iota K v' qs) (removals_h K v' qs) pi iota h
        → AreMatricesOf K C' D' (removals_pi K v' qs) (removals_iota K v' qs) (removals_h K v' qs) pi iota h
    carried {C} {C'} {D} {D'} c d m =
        subst (λ C. AreMatricesOf K C D' (removals_pi K v' qs) (removals_iota K v' qs) (removals_h K v' qs) pi iota h) c
        (subst (λ D. AreMatricesOf K C D (removals_pi K v' qs) (removals_iota K v' qs) (removals_h K v' qs) pi iota h) d
        m)
