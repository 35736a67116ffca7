-- A reduction has one end up to what counts, and one triple of maps to it.
use Rattle.std.proofs.Common.{◌≡◌, ℕ, zero, suc, List, map, refl, sym, ap, ap₂, subst, ◌∙◌}
use Rattle.dense_blocks.specs.Field.{Ops}
use Rattle.dense_blocks.specs.FieldLaws.{IsField}
use Rattle.dense_blocks.specs.Matrices.{image_of, product}
use Rattle.dense_blocks.specs.MatrixFacts.{matrix_sum, identity}
use Rattle.cochain_vec.specs.Complexes.{coordinates}
use Rattle.block_complexes.specs.BlockComplexes.{IsBlockComplex, HaveSameMatrices}
use Rattle.block_complexes.specs.Cochains.{complex_of}
use Rattle.block_complexes.proofs.SameLaws.{same-complex}
use Rattle.removals.specs.Reductions.{IsAfter}
use Rattle.removals.proofs.ReductionLaws.{removals_keep_all}
use Rattle.equivalence_laws.specs.Bases.{unit_images}
use Rattle.equivalence_laws.specs.Composites.{IsCompositeOfPairs}
use Rattle.equivalence_laws.specs.Equivalences.{composite_pi, composite_iota, composite_h}
use Rattle.equivalence_laws.specs.Laws.{AreSameMatrices}
use Rattle.equivalence_laws.proofs.ReductionLaws.{pairs_tell_composite}
use Rattle.scalar_finish.proofs.SplitLaws.{split_keeps_all, splits_are_same}
use Rattle.scalar_finish.proofs.EndLaws.{finishes_are_equal}
use Rattle.cocycle_bases.specs.Classes.{homotopy_below}
use Rattle.core_machine.specs.Replies.{Reduction}
use Rattle.core_machine.specs.Solo.{Final, IsFinal, AreFinalVectors}

-- all is the same of both, block complexes up to what counts
pub record AreSameReductions (r q : Reduction) : Type 0 where
  pub whole : q.whole ≡ r.whole
  pub degrees : q.degrees ≡ r.degrees
  pub start : HaveSameMatrices r.start q.start
  pub pairs : q.pairs ≡ r.pairs
  pub rest : HaveSameMatrices r.rest q.rest

-- the same is left, and the maps to it are the same
pub record AreSameFinals (f g : Final) : Type 0 where
  pub rest : HaveSameMatrices f.rest g.rest
  pub maps : AreSameMatrices f.pi f.iota f.h g.pi g.iota g.h

module _ (K : Ops) (F : IsField K) (r q : Reduction) (f g : Final) (start : IsBlockComplex K r.start)
    (after : IsAfter K r.start r.pairs r.rest) (same : AreSameReductions r q) (h : IsFinal K r f) (k : IsFinal K q g)
  where
    rest_is : IsBlockComplex K r.rest
    rest_is = (removals_keep_all K r.start r.rest r.pairs F start after).block_complex

    splits : HaveSameMatrices h.split k.split
    splits = splits_are_same K r.rest q.rest h.split k.split rest_is same.rest h.is_split k.is_split

    split_is : IsBlockComplex K h.split
    split_is = (split_keeps_all K r.rest h.split F rest_is h.is_split).block_complex

    finishes : (h.pairs ≡ k.pairs) × HaveSameMatrices f.rest g.rest
    finishes = finishes_are_equal K h.split k.split f.rest g.rest h.pairs k.pairs F split_is splits h.is_finish
        k.is_finish

    first : AreSameMatrices h.pi1 h.iota1 h.h1 k.pi1 k.iota1 k.h1
    first = pairs_tell_composite K r.start q.start r.pairs h.pi1 h.iota1 h.h1 k.pi1 k.iota1 k.h1 F start same.start
        h.first (subst (λ ps. IsCompositeOfPairs K q.start ps k.pi1 k.iota1 k.h1) same.pairs k.first)

    second : AreSameMatrices h.pi2 h.iota2 h.h2 k.pi2 k.iota2 k.h2
    second = pairs_tell_composite K h.split k.split h.pairs h.pi2 h.iota2 h.h2 k.pi2 k.iota2 k.h2 F split_is splits
        h.second (subst (λ ps. IsCompositeOfPairs K k.split ps k.pi2 k.iota2 k.h2) (sym finishes.0) k.second)

    starts : complex_of r.start ≡ complex_of q.start
    starts = sym (same-complex r.start q.start same.start)

    ends : complex_of f.rest ≡ complex_of g.rest
    ends = sym (same-complex f.rest g.rest finishes.1)

    pi-same : (j : ℕ) → f.pi j ≡ g.pi j
    pi-same j = h.pi_is j ∙ ap (λ C. composite_pi K C h.pi1 h.pi2 j) starts
        ∙ ap₂ (product K (coordinates (complex_of q.start) j)) (second j).0 (first j).0 ∙ sym (k.pi_is j)

    iota-same : (j : ℕ) → f.iota j ≡ g.iota j
    iota-same j = h.iota_is j ∙ ap (λ C. composite_iota K C h.iota1 h.iota2 j) ends
        ∙ ap₂ (product K (coordinates (complex_of g.rest) j)) (first j).1 (second j).1 ∙ sym (k.iota_is j)

    h-same : (j : ℕ) → f.h j ≡ g.h j
    h-same j = let n = coordinates (complex_of q.start) (suc j) in
        h.h_is j ∙ ap (λ C. composite_h K C h.pi1 h.iota1 h.h1 h.h2 j) starts
        ∙ ap₂ (matrix_sum K) (first j).2
        (ap₂ (product K n) (first j).1 (ap₂ (product K n) (second j).2 (first (suc j)).0)) ∙ sym (k.h_is j)

    pub one-final : AreSameFinals f g
    one-final = record { rest = finishes.1; maps = λ j. (pi-same j, iota-same j, h-same j) }

-- the same vectors and primitives
pub one-vectors : (K : Ops) (f g : Final) → AreSameFinals f g → (k : ℕ) (a b : List (List ℕ)) → AreFinalVectors K f k a
    → AreFinalVectors K g k b → a ≡ b
one-vectors K f g same k a b h e =
    h ∙ ap (λ C. unit_images K C f.iota k) (sym (same-complex f.rest g.rest same.rest))
    ∙ ap (λ A. map (image_of K A) (identity (coordinates (complex_of g.rest) k))) (same.maps k).1 ∙ sym e

pub one-primitive : (K : Ops) (f g : Final) → AreSameFinals f g → (k : ℕ) (z : List ℕ)
    → homotopy_below K f.h k z ≡ homotopy_below K g.h k z
one-primitive K f g same zero z = refl
one-primitive K f g same (suc k) z = ap (λ A. image_of K A z) (same.maps k).2
