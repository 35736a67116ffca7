-- Which replies answer a question, out of a slot and what is kept of it.
use Rattle.std.proofs.Common.{◌≡◌, ℕ, List, refl, sym, ◌∙◌, subst}
use Rattle.std.specs.Prelude.{vec_len}
use Rattle.dense_blocks.specs.Field.{Ops}
use Rattle.dense_blocks.specs.FieldLaws.{IsField}
use Rattle.cochain_vec.specs.Complexes.{CellularComplex, IsCochain}
use Rattle.cochain_vec.specs.CochainComplexes.{IsCochainComplex}
use Rattle.cochain_vec.specs.Cohomology.{AreDimensions, IsBasis}
use Rattle.block_complexes.specs.BlockComplexes.{IsBlockComplex, HaveSameMatrices}
use Rattle.block_complexes.specs.Cochains.{complex_of}
use Rattle.block_complexes.proofs.SameLaws.{same-complex}
use Rattle.block_sparse.specs.StoredBlocks.{complex_in}
use Rattle.reduce_step.specs.Logs.{AreStepsFrom}
use Rattle.equivalence_laws.specs.Bases.{unit_images}
use Rattle.equivalence_laws.specs.Composites.{IsCompositeOfPairs}
use Rattle.equivalence_laws.specs.Equivalences.{graded_matrix}
use Rattle.cocycle_bases.specs.Answers.{HasClass}
use Rattle.cocycle_bases.specs.Bases.{AreBases, AreGradedCochains}
use Rattle.cocycle_bases.specs.Classes.{IsFirstOpen, IsClass}
use Rattle.pair_commit.specs.Slots.{SlotValue}
use Rattle.sheaf_words.specs.declared.query.Query.TheVariants as queries
use Rattle.sheaf_words.specs.declared.reply.Maps.{Maps}
use Rattle.sheaf_words.specs.declared.reply.Reduced.{Reduced}
use Rattle.sheaf_words.specs.declared.reply.Reply.TheVariants as replies
use Rattle.core_machine.specs.Replies.{Reduction, IsRightReduced, AreRightMaps}
use Rattle.query_answers.specs.Answers.{IsAnswerIn}
use Rattle.query_answers.specs.Endings.{IsEndingOf, AreFinalMaps, IsCohomologyOf, final_of}
use Rattle.query_answers.specs.SlotReductions.{IsReductionIn}
use Rattle.query_answers.specs.Vectors.{AreVectorsAt}
use Rattle.query_answers.specs.declared.cohomology.Cohomology.{Cohomology}
use Rattle.query_answers.specs.declared.ending.Ending.{Ending}
use Rattle.query_answers.proofs.EndingLaws.{split-same, rest-fits, rest-no_coboundary}

-- ---- what is kept

pub cohomology-is : {F : Type 0} (K : Ops) (slot : SlotValue F) (ending : Ending) (c : Cohomology) → IsField K
    → IsBlockComplex K (complex_in slot.base) → IsCochainComplex K (complex_of (complex_in slot.base))
    → AreStepsFrom K (complex_in slot.base) slot.log (complex_in slot.present) → IsEndingOf K slot.present ending
    → AreFinalMaps K slot.base slot.log ending c.maps → vec_len c.bases ≡ 16
    → AreGradedCochains (unit_images K (complex_of (complex_in ending.rest)) (graded_matrix c.maps.iota)) c.bases.items
    → AreBases K (complex_of (complex_in slot.base)) c.bases.items → IsCohomologyOf K slot c
cohomology-is K slot ending c field is closed steps own maps count images bases = record {
  rest = complex_in ending.rest;
  fits = rest-fits K field (complex_in slot.base) slot.log slot.present ending is closed steps own;
  no_coboundary = rest-no_coboundary K field (complex_in slot.base) slot.log slot.present ending is closed steps own;
  equivalence = maps.equivalence;
  final = λ degrees r h start. maps.final r start h.pairs
      (split-same (complex_in slot.present) r.rest (complex_in ending.split) h.rest own.split);
  one_each = count;
  images = images;
  bases = bases;
}

-- ---- answers

module _ {F : Type 0} (K : Ops) (slot : SlotValue F) where
  abbrev in_start : Reduction → Reduction
  in_start r = record r { whole = complex_of r.start }

  in_start-is : (degrees : ℕ) (r : Reduction) → IsReductionIn degrees slot r → IsReductionIn degrees slot (in_start r)
  in_start-is degrees r is = record { degrees_are = is.degrees_are; pairs = is.pairs; rest = is.rest }

  abbrev base : CellularComplex
  base = complex_of (complex_in slot.base)

  -- what holds of the base holds of the start
  at-start : (P : CellularComplex → Type 0) (r : Reduction) → HaveSameMatrices (complex_in slot.base) r.start → P base
      → P (complex_of r.start)
  at-start P r start h = subst P (sym (same-complex (complex_in slot.base) r.start start)) h

  pub reduced-answer : (degrees : ℕ) (reply : Reduced)
      → ((r : Reduction) → IsReductionIn degrees slot r → IsRightReduced K r reply)
      → IsAnswerIn K degrees slot queries.Reduce (replies.Reduce reply)
  reduced-answer degrees reply right r is start = (right (in_start r) (in_start-is degrees r is), tt)

  pub maps-answer : (degrees : ℕ) (reply : Reduced) (maps : Maps)
      → ((r : Reduction) → IsReductionIn degrees slot r → IsRightReduced K r reply)
      → ((r : Reduction) → IsReductionIn degrees slot r → HaveSameMatrices (complex_in slot.base) r.start
      → AreRightMaps K r maps)
      → ((r : Reduction) → IsReductionIn degrees slot r → HaveSameMatrices (complex_in slot.base) r.start
      → IsCompositeOfPairs K r.start r.pairs (graded_matrix maps.pi) (graded_matrix maps.iota) (graded_matrix maps.h))
      → IsAnswerIn K degrees slot queries.Equiv (replies.Equiv reply maps)
  maps-answer degrees reply maps reduced right composite r is start =
      let here = in_start-is degrees r is in
      ((reduced (in_start r) here, right (in_start r) here start), composite r is start)

  pub betti-answer : (degrees : ℕ) (numbers : List ℕ) → AreDimensions K base degrees numbers
      → IsAnswerIn K degrees slot queries.Betti (replies.Betti numbers)
  betti-answer degrees numbers h r is start = (
    at-start (λ C. AreDimensions K C r.degrees numbers) r start
        (subst (λ n. AreDimensions K base n numbers) (sym is.degrees_are) h),
    tt,
  )

  pub open-answer : (k : ℕ) (z : List ℕ) (t : ℕ) → IsCochain K base k z → IsFirstOpen K base k z t → (degrees : ℕ)
      → IsAnswerIn K degrees slot (queries.Class k z) (replies.NotCocycle k t)
  open-answer k z t cochain first degrees r is start = (
    (refl, at-start (λ C. IsCochain K C k z) r start cochain, at-start (λ C. IsFirstOpen K C k z t) r start first),
    tt,
  )

  module _ (c : Cohomology) (kept : IsCohomologyOf K slot c) (k : ℕ) (vectors : List (List ℕ))
      (at : AreVectorsAt c.bases.items k vectors) where
    are-images : vectors ≡ unit_images K (complex_of kept.rest) (graded_matrix c.maps.iota) k
    are-images = at.2 ∙ (kept.images k at.0 at.1).values_are

    pub basis-answer : (degrees : ℕ) → IsAnswerIn K degrees slot (queries.Basis k) (replies.Basis k vectors)
    basis-answer degrees r is start = (
      (
        refl,
        at-start (λ C. IsBasis K C k vectors) r start
            (subst (IsBasis K base k) (sym at.2) (kept.bases k at.0 at.1)),
      ),
      (final_of kept.rest c.maps, kept.final degrees r is start, are-images),
    )

    pub class-answer : (z coords primitive : List ℕ) → HasClass K base c.maps k z coords primitive → (degrees : ℕ)
        → IsAnswerIn K degrees slot (queries.Class k z) (replies.Class k coords vectors primitive)
    class-answer z coords primitive h degrees r is start = (
      (
        refl,
        at-start (λ C. IsClass K C k z coords vectors primitive) r start
            (subst (λ us. IsClass K base k z coords us primitive) (sym are-images)
            (h.is_class (complex_of kept.rest) kept.fits kept.no_coboundary kept.equivalence)),
      ),
      (final_of kept.rest c.maps, kept.final degrees r is start, are-images, h.coords_are, h.primitive_is),
    )
