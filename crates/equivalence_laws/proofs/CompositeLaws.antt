-- A removal and lists of removals give equivalences; they have matrices, and only one triple.
use Rattle.std.proofs.Common.{suc, sym, subst, List, ◌∷◌, []}
use Rattle.dense_blocks.specs.Field.{Ops}
use Rattle.dense_blocks.specs.FieldLaws.{IsField}
use Rattle.dense_blocks.proofs.LinearMaps.{matrix_for, linear-matrix, one_matrix}
use Rattle.cochain_vec.specs.Complexes.{CellularComplex, coordinates}
use Rattle.cochain_vec.specs.Shapes.{RowsFit}
use Rattle.cochain_vec.specs.CochainComplexes.{IsCochainComplex}
use Rattle.block_complexes.specs.BlockComplexes.{BlockComplex, IsBlockComplex}
use Rattle.block_complexes.specs.Cochains.{complex_of}
use Rattle.block_complexes.proofs.ComplexLaws.{differential_is_cochain_complex}
use Rattle.block_complexes.proofs.SameLaws.{same-complex, same-differential}
use Rattle.block_complexes.proofs.FullLaws.{filled, filled-full, same-filled}
use Rattle.removals.specs.Removals.{IsRemoval}
use Rattle.removals.proofs.SameRemovals.{removal-same-before, removal-same-after}
use Rattle.equivalence_laws.specs.Equivalences.{GradedMap, AreMatricesOf, GradedMatrix}
use Rattle.equivalence_laws.specs.RemovalMaps.{Removal, removal_pi, removal_iota, removal_h, IsRemovalFrom}
use Rattle.equivalence_laws.specs.Composites.{AreRemovals, rest_of, removals_pi, removals_iota, removals_h}
use Rattle.equivalence_laws.specs.Laws.{RemovalGivesEquivalence, CompositeIsEquivalence}
use Rattle.equivalence_laws.specs.Laws.{CompositeExists, CompositeIsUnique}
use Rattle.equivalence_laws.proofs.CompositionLaws.{AreEquivalent, identity-equivalent, composed-equivalent}
use Rattle.equivalence_laws.proofs.CompositionLaws.{matrices-equivalence, equivalent-same}
use Rattle.equivalence_laws.proofs.CellEquations.{IsSetting}
use Rattle.equivalence_laws.proofs.SameMaps.{same-pi, same-iota, same-h}
use Rattle.equivalence_laws.proofs.RemovalEquations.{full_fits, full-equivalent}
use Rattle.removals.proofs.RemovalLaws as removals

pub complex_fits : (K : Ops) (F : IsField K) (v : BlockComplex) → IsBlockComplex K v → RowsFit (complex_of v)
complex_fits K F v is = subst RowsFit (same-complex v (filled v) (same-filled v))
    (full_fits K (filled v) (filled-full K F v is))

-- the same removal, between full block complexes
abbrev pub filled_removal : Removal → Removal
filled_removal r = record { x = r.x; y = r.y; inverse = r.inverse; rest = filled r.rest }

module _ (K : Ops) (F : IsField K) (v : BlockComplex) (r : Removal) (is : IsBlockComplex K v)
    (removal : IsRemovalFrom K v r) where
  pub rest_is : IsBlockComplex K r.rest
  rest_is = removals.removal_keeps_block_complex K v r.rest r.x r.y r.inverse F is removal

  pub filled-removal : IsRemoval K (filled v) r.x r.y r.inverse (filled r.rest)
  filled-removal =
      removal-same-before K v (filled v) r.x r.y r.inverse (filled r.rest) (same-filled v)
      (removal-same-after K v r.x r.y r.inverse r.rest (filled r.rest) (same-filled r.rest) removal)

  module _ (closed : IsCochainComplex K (complex_of v)) where
    pub setting : IsSetting K (filled v) (filled_removal r)
    setting = record {
      field = F;
      full = filled-full K F v is;
      rest_full = filled-full K F r.rest rest_is;
      removal = filled-removal;
      closed = same-differential K v (filled v) (same-filled v) ((differential_is_cochain_complex K v F is).1 closed);
    }

    -- the maps are those of the filled removal, and so are the complexes
    pub removal-equivalent : AreEquivalent K (complex_of v) (complex_of r.rest) (removal_pi K v r) (removal_iota K v r)
        (removal_h K v r)
    removal-equivalent =
        let q = filled_removal r in
        let C = same-complex v (filled v) (same-filled v) in
        let D = same-complex r.rest (filled r.rest) (same-filled r.rest) in
        equivalent-same K (complex_of v) (complex_of r.rest)
        (removal_pi K (filled v) q) (removal_iota K (filled v) q) (removal_h K (filled v) q) (removal_pi K v r)
        (removal_iota K v r) (removal_h K v r)
        (λ k z. sym (same-pi K v (filled v) (same-filled v) r.x r.y r.inverse r.rest
        (filled r.rest) removal filled-removal rest_is.rising k z))
        (λ k z. sym (same-iota K v (filled v) (same-filled v) r.x r.y r.inverse r.rest
        (filled r.rest) removal filled-removal rest_is.rising k z))
        (λ k z. sym (same-h K v (filled v) (same-filled v) r.x r.y r.inverse r.rest
        (filled r.rest) removal filled-removal rest_is.rising k z))
        (subst (λ E. AreEquivalent K E (complex_of r.rest) (removal_pi K (filled v) q) (removal_iota K (filled v) q)
        (removal_h K (filled v) q)) C
        (subst (λ E. AreEquivalent K (complex_of (filled v)) E (removal_pi K (filled v) q) (removal_iota K (filled v) q)
        (removal_h K (filled v) q)) D
        (full-equivalent K (filled v) q setting)))

-- removals one after another
module _ (K : Ops) (F : IsField K) where
  pub last_is : (v : BlockComplex) (rs : List Removal) → IsBlockComplex K v → AreRemovals K v rs
      → IsBlockComplex K (rest_of v rs)
  last_is v [] is h = is
  last_is v (r ∷ rs) is h = last_is r.rest rs (rest_is K F v r is h.0) h.1

  pub last_fits : (v : BlockComplex) (rs : List Removal) → IsBlockComplex K v → AreRemovals K v rs
      → RowsFit (complex_of (rest_of v rs))
  last_fits v rs is h = complex_fits K F (rest_of v rs) (last_is v rs is h)

  pub removals-equivalent : (v : BlockComplex) (rs : List Removal) → IsBlockComplex K v
      → IsCochainComplex K (complex_of v) → AreRemovals K v rs
      → AreEquivalent K (complex_of v) (complex_of (rest_of v rs)) (removals_pi K v rs) (removals_iota K v rs)
      (removals_h K v rs)
  removals-equivalent v [] is closed h = identity-equivalent K F (complex_of v) (complex_fits K F v is)
  removals-equivalent v (r ∷ rs) is closed h =
      let is_rest = rest_is K F v r is h.0 in
      let closed_rest = removals.removal_keeps_cochain_complex K v r.rest r.x r.y r.inverse F is h.0 closed in
      composed-equivalent K F (complex_of v) (complex_of r.rest) (complex_of (rest_of r.rest rs))
      (complex_fits K F v is) (complex_fits K F r.rest is_rest)
      (removal_pi K v r) (removal_iota K v r) (removal_h K v r) (removals_pi K r.rest rs) (removals_iota K r.rest rs)
      (removals_h K r.rest rs)
      (removal-equivalent K F v r is h.0 closed)
      (removals-equivalent r.rest rs is_rest closed_rest h.1)

pub removal_gives_equivalence : RemovalGivesEquivalence
removal_gives_equivalence K v F is closed r pi iota h removal m =
    matrices-equivalence K F (complex_of v) (complex_of r.rest) (complex_fits K F v is)
    (complex_fits K F r.rest (rest_is K F v r is removal))
    (removal_pi K v r) (removal_iota K v r) (removal_h K v r) pi iota h (removal-equivalent K F v r is removal closed) m

pub composite_is_equivalence : CompositeIsEquivalence
composite_is_equivalence K v F is closed rs pi iota h are m =
    matrices-equivalence K F (complex_of v) (complex_of (rest_of v rs)) (complex_fits K F v is)
    (last_fits K F v rs is are)
    (removals_pi K v rs) (removals_iota K v rs) (removals_h K v rs) pi iota h
    (removals-equivalent K F v rs is closed are) m

-- matrices of the maps
module _ (K : Ops) (F : IsField K) where
  equivalent-matrices : (C D : CellularComplex) (p i l : GradedMap) → AreEquivalent K C D p i l
      → (pi : GradedMatrix) × (iota : GradedMatrix) × (h : GradedMatrix)
      × AreMatricesOf K C D p i l pi iota h
  equivalent-matrices C D p i l e = (
    (λ k. matrix_for K F (coordinates D k) (coordinates C k) (p k) (e.pi_linear k)),
    (λ k. matrix_for K F (coordinates C k) (coordinates D k) (i k) (e.iota_linear k)),
    (λ k. matrix_for K F (coordinates C k) (coordinates C (suc k)) (l k) (e.h_linear k)),
    record {
      pi_is = λ k. linear-matrix K F (coordinates D k) (coordinates C k) (p k) (e.pi_linear k);
      iota_is = λ k. linear-matrix K F (coordinates C k) (coordinates D k) (i k) (e.iota_linear k);
      h_is = λ k. linear-matrix K F (coordinates C k) (coordinates C (suc k)) (l k) (e.h_linear k);
    },
  )

pub composite_exists : CompositeExists
composite_exists K v F is closed rs are =
    equivalent-matrices K F (complex_of v) (complex_of (rest_of v rs)) (removals_pi K v rs) (removals_iota K v rs)
    (removals_h K v rs) (removals-equivalent K F v rs is closed are)

pub composite_is_unique : CompositeIsUnique
composite_is_unique K v rs pi1 iota1 h1 pi2 iota2 h2 F m1 m2 k =
    let C = complex_of v in
    let D = complex_of (rest_of v rs) in (
      one_matrix K F (coordinates D k) (coordinates C k) (removals_pi K v rs k) (pi1 k) (pi2 k) (m1.pi_is k)
          (m2.pi_is k),
      one_matrix K F (coordinates C k) (coordinates D k) (removals_iota K v rs k) (iota1 k) (iota2 k) (m1.iota_is k)
          (m2.iota_is k),
      one_matrix K F (coordinates C k) (coordinates C (suc k)) (removals_h K v rs k) (h1 k) (h2 k) (m1.h_is k)
          (m2.h_is k),
    )
