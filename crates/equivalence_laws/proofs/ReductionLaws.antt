-- What is left after pairs of cells, by removals one after another; and the one equivalence of the pairs.
use Rattle.std.proofs.Common.{◌≡◌, ℕ, List, ◌∷◌, refl, sym, ap, ◌∙◌, subst, []}
use Rattle.dense_blocks.specs.Field.{Ops}
use Rattle.block_complexes.specs.BlockComplexes.{BlockComplex, HaveSameMatrices}
use Rattle.block_complexes.specs.Cochains.{complex_of}
use Rattle.block_complexes.proofs.SameLaws.{same-refl, same-complex}
use Rattle.removals.specs.Reductions.{IsAfter}
use Rattle.removals.proofs.ReductionLaws.{removals_leave_one, removals_keep_all}
use Rattle.equivalence_laws.specs.Equivalences.{IsEquivalence}
use Rattle.equivalence_laws.specs.RemovalMaps.{Removal}
use Rattle.equivalence_laws.specs.Composites.{AreRemovals, removal_pairs, rest_of}
use Rattle.equivalence_laws.specs.Laws.{AfterIsByRemovals, PairsHaveComposite, PairsGiveEquivalence, PairsTellComposite}
use Rattle.equivalence_laws.specs.Laws.{PairsGiveBases}
use Rattle.equivalence_laws.proofs.CompositeLaws.{complex_fits, composite_is_equivalence, composite_exists}
use Rattle.equivalence_laws.proofs.CompositeLaws.{composite_is_unique}
use Rattle.equivalence_laws.proofs.BasisLaws.{unit_images_are_basis}
use Rattle.equivalence_laws.proofs.BlocklessLaws.{no_block}
use Rattle.equivalence_laws.proofs.PairLaws.{composite_is_of_pairs}

module _ (K : Ops) where
  by-removals : (v w : BlockComplex) (pairs : List (ℕ × ℕ)) → IsAfter K v pairs w
      → (rs : List Removal) × (removal_pairs rs ≡ pairs) × AreRemovals K v rs × HaveSameMatrices (rest_of v rs) w
  by-removals v w [] h = ([], refl, tt, h)
  by-removals v w (p ∷ pairs) h =
      let rest = by-removals h.0 w pairs h.3 in
      (record { x = p.0; y = p.1; inverse = h.1; rest = h.0 } ∷ rest.0, ap (λ ps. p ∷ ps) rest.1, (h.2, rest.2), rest.3)

  pub removals-after : (v w : BlockComplex) (rs : List Removal) → AreRemovals K v rs → HaveSameMatrices (rest_of v rs) w
      → IsAfter K v (removal_pairs rs) w
  removals-after v w [] are same = same
  removals-after v w (r ∷ rs) are same = (r.rest, r.inverse, are.0, removals-after r.rest w rs are.1 same)

pub after_is_by_removals : AfterIsByRemovals
after_is_by_removals K v w pairs =
    (by-removals K v w pairs, λ h. subst (λ ps. IsAfter K v ps w) h.1 (removals-after K v w h.0 h.2 h.3))

pub pairs_have_composite : PairsHaveComposite
pairs_have_composite K v F is closed w pairs after =
    let h = by-removals K v w pairs after in
    let m = composite_exists K v F is closed h.0 h.2 in
    (m.0, m.1, m.2, (h.0, h.1, h.2, m.3))

pub pairs_give_equivalence : PairsGiveEquivalence
pairs_give_equivalence K v F is closed w pairs pi iota h after m =
    let own : IsAfter K v pairs (rest_of v m.0) =
    subst (λ ps. IsAfter K v ps (rest_of v m.0)) m.1
    (removals-after K v (rest_of v m.0) m.0 m.2 (same-refl (rest_of v m.0))) in
    let same = removals_leave_one K v (rest_of v m.0) w pairs F is own after in
    subst (λ D. IsEquivalence K (complex_of v) D pi iota h) (sym (same-complex (rest_of v m.0) w same))
    (composite_is_equivalence K v F is closed m.0 pi iota h m.2 m.3)

pub pairs_tell_composite : PairsTellComposite
pairs_tell_composite K v v' pairs pi1 iota1 h1 pi2 iota2 h2 F is same m n =
    composite_is_unique K v' n.0 pi1 iota1 h1 pi2 iota2 h2 F
    (composite_is_of_pairs K v v' m.0 n.0 pi1 iota1 h1 F is same m.2 n.2 (m.1 ∙ sym n.1) m.3) n.3

pub pairs_give_bases : PairsGiveBases
pairs_give_bases K v F is closed w pairs pi iota h after m none k =
    let is_w = (removals_keep_all K v w pairs F is after).block_complex in
    unit_images_are_basis K (complex_of v) (complex_of w) pi iota h F (complex_fits K F v is) (complex_fits K F w is_w)
    (pairs_give_equivalence K v F is closed w pairs pi iota h after m) (no_block K F w is_w none) k
