-- The maps of two logs, one after the other.
use Rattle.std.proofs.Common.{◌≡◌, ℕ, zero, suc, List, sym, ap, ◌∙◌, subst}
use Rattle.dense_blocks.specs.Field.{Ops}
use Rattle.dense_blocks.specs.FieldLaws.{IsField}
use Rattle.dense_blocks.specs.Vectors.{IsVector, zeros, plus}
use Rattle.dense_blocks.specs.MatrixFacts.{IsMatrix}
use Rattle.cochain_vec.specs.Complexes.{CellularComplex, IsCochain, coordinates, coboundary}
use Rattle.block_complexes.specs.BlockComplexes.{BlockComplex, HaveSameMatrices}
use Rattle.block_complexes.specs.Cochains.{complex_of}
use Rattle.block_complexes.proofs.SameLaws.{same-complex}
use Rattle.equivalence_laws.specs.Equivalences.{GradedMap, MeetEquations, d_h}
use Rattle.equivalence_laws.specs.Equivalences.{graded_matrix, map_of, composite_pi, composite_h}
use Rattle.equivalence_laws.specs.Composites.{IsCompositeOfPairs}
use Rattle.equivalence_laws.proofs.CompositeLaws.{complex_fits}
use Rattle.block_sparse.specs.StoredBlocks.{StoredBlocks, complex_in}
use Rattle.reduce_step.specs.declared.record.Step.{Step}
use Rattle.reduce_step.specs.Logs.{AreStepsFrom, pairs_of}
use Rattle.equivalences.specs.Between.{IsEquivalenceOf}
use Rattle.equivalences.specs.Composition.{AreComposable, IsCompositeOf, IsCompositeBetween, JoinsEquivalences}
use Rattle.equivalences.specs.GradedBlocks.{AreBlocksOver}
use Rattle.equivalences.specs.declared.equivalence.Equivalence.{Equivalence}
use Rattle.scalar_finish.specs.Splits.{IsSplit}
use Rattle.scalar_finish.specs.Laws.{SplitKeeps}
use Rattle.core_machine.specs.Replies.{Reduction}
use Rattle.core_machine.specs.Solo.{IsFinal}
use Rattle.query_answers.specs.Endings.{IsWholeReduction, AreFinalMaps, final_of}
use Rattle.query_answers.specs.declared.ending.Ending.{Ending}
use Rattle.query_answers.proofs.MapLaws.{composite-elsewhere}
use Rattle.query_answers.proofs.EndingLaws.{present-after, present-is, split-keeps, rest-is}

-- an equivalence of S and E is one of D and E, where S and D have the same coordinates and the same coboundary
module _ (K : Ops) (S D : CellularComplex) (sizes : (k : ℕ) → coordinates S k ≡ coordinates D k)
    (maps : (k : ℕ) (z : List ℕ) → coboundary K S k z ≡ coboundary K D k z) where
  sizes-are : coordinates S ≡ coordinates D
  sizes-are = λ i k. sizes k i

  above-are : let of : CellularComplex → ℕ → ℕ = λ C k. coordinates C (suc k) in of S ≡ of D
  above-are = λ i k. sizes (suc k) i

  d_h-are : (h : GradedMap) (k : ℕ) (z : List ℕ) → d_h K S h k z ≡ d_h K D h k z
  d_h-are h zero z = ap zeros (sizes 0)
  d_h-are h (suc k) z = maps k (h k z)

  back : (k : ℕ) (z : List ℕ) → IsCochain K D k z → IsCochain K S k z
  back k z c = subst (λ n. IsVector K n z) (sym (sizes k)) c

  module _ (E : CellularComplex) where
    equations-over : (pi iota h : GradedMap) → MeetEquations K S E pi iota h → MeetEquations K D E pi iota h
    equations-over pi iota h e = record {
      pi_d = λ k z c. ap (pi (suc k)) (sym (maps k z)) ∙ e.pi_d k z (back k z c);
      d_iota = λ k z c. sym (maps k (iota k z)) ∙ e.d_iota k z c;
      pi_iota = e.pi_iota;
      homotopy = λ k z c.
          e.homotopy k z (back k z c)
          ∙ ap (λ u. plus K (iota k (pi k z)) (plus K u (h k (coboundary K S k z)))) (d_h-are h k z)
          ∙ ap (λ u. plus K (iota k (pi k z)) (plus K (d_h K D h k z) (h k u))) (maps k z);
    }

    pub equivalence-over : (e : Equivalence) → IsEquivalenceOf K S E e → IsEquivalenceOf K D E e
    equivalence-over e is = record {
      maps = record {
        pi = subst (λ n. AreBlocksOver K (coordinates E) n e.pi) sizes-are is.maps.pi;
        iota = subst (λ n. AreBlocksOver K n (coordinates E) e.iota) sizes-are is.maps.iota;
        h = subst (λ (n : ℕ → ℕ). AreBlocksOver K n (λ k. n (suc k)) e.h) sizes-are is.maps.h;
      };
      equivalence = record {
        pi_shape = λ k. subst (λ n. IsMatrix K (coordinates E k) n (graded_matrix e.pi k)) (sizes k)
            (is.equivalence.pi_shape k);
        iota_shape = λ k. subst (λ n. IsMatrix K n (coordinates E k) (graded_matrix e.iota k)) (sizes k)
            (is.equivalence.iota_shape k);
        h_shape = λ k. subst (λ n. IsMatrix K (coordinates D k) n (graded_matrix e.h k)) (sizes (suc k))
            (subst (λ n. IsMatrix K n (coordinates S (suc k)) (graded_matrix e.h k)) (sizes k)
            (is.equivalence.h_shape k));
        equations = equations-over (map_of K (graded_matrix e.pi)) (map_of K (graded_matrix e.iota))
            (map_of K (graded_matrix e.h)) is.equivalence.equations;
      };
    }

-- the maps of the log, and those of the ending
module _ (K : Ops) (F : IsField K) (base : StoredBlocks) (log : List Step) (ending : Ending)
    (whole : IsWholeReduction K base log ending) (first second : Equivalence)
    (first_is : (w : BlockComplex) → AreStepsFrom K (complex_in base) log w
    → IsEquivalenceOf K (complex_of (complex_in base)) (complex_of w) first)
    (second_is : (w : BlockComplex) → AreStepsFrom K (complex_in ending.split) ending.log.items w
    → IsEquivalenceOf K (complex_of (complex_in ending.split)) (complex_of w) second) where
  abbrev present : BlockComplex
  present = complex_in whole.present

  to_present : IsEquivalenceOf K (complex_of (complex_in base)) (complex_of present) first
  to_present = first_is present whole.steps

  keeps : SplitKeeps K present (complex_in ending.split)
  keeps = split-keeps K F (complex_in base) log whole.present ending whole.base_is whole.closed whole.steps
      whole.ending_is

  to_rest : IsEquivalenceOf K (complex_of present) (complex_of (complex_in ending.rest)) second
  to_rest = equivalence-over K (complex_of (complex_in ending.split)) (complex_of present) keeps.sizes
      keeps.coboundaries (complex_of (complex_in ending.rest)) second
      (second_is (complex_in ending.rest) whole.ending_is.steps)

  pub composable : AreComposable K first second
  composable = (
    complex_of (complex_in base),
    complex_of present,
    complex_of (complex_in ending.rest),
    to_present.maps,
    to_rest.maps,
  )

  module _ (first_pairs : IsCompositeOfPairs K (complex_in base) (pairs_of log) (graded_matrix first.pi)
      (graded_matrix first.iota) (graded_matrix first.h))
      (second_pairs : IsCompositeOfPairs K (complex_in ending.split) (pairs_of ending.log.items)
      (graded_matrix second.pi) (graded_matrix second.iota) (graded_matrix second.h))
      (e : Equivalence) (composite : IsCompositeOf K first second e) (joins : JoinsEquivalences K first second e) where
    between : IsCompositeBetween K (complex_of (complex_in base)) (complex_of (complex_in ending.rest)) first second e
    between = composite (complex_of (complex_in base)) (complex_of present) (complex_of (complex_in ending.rest))
        to_present.maps to_rest.maps

    is-final : (r : Reduction) → HaveSameMatrices (complex_in base) r.start → r.pairs ≡ pairs_of log
        → IsSplit r.rest (complex_in ending.split) → IsFinal K r (final_of (complex_in ending.rest) e)
    is-final r start pairs is_split =
        let same : complex_of (complex_in base) ≡ complex_of r.start =
        sym (same-complex (complex_in base) r.start start) in
        record {
          split = complex_in ending.split;
          pairs = pairs_of ending.log.items;
          is_split = is_split;
          is_finish = whole.ending_is.finish;
          pi1 = graded_matrix first.pi;
          iota1 = graded_matrix first.iota;
          h1 = graded_matrix first.h;
          pi2 = graded_matrix second.pi;
          iota2 = graded_matrix second.iota;
          h2 = graded_matrix second.h;
          first = subst (λ ps. IsCompositeOfPairs K r.start ps (graded_matrix first.pi) (graded_matrix first.iota)
              (graded_matrix first.h)) (sym pairs)
              (composite-elsewhere K (complex_in base) r.start present (pairs_of log) (graded_matrix first.pi)
              (graded_matrix first.iota) (graded_matrix first.h) F whole.base_is whole.closed start
              (present-after K F (complex_in base) log whole.present ending whole.base_is whole.closed whole.steps
              whole.ending_is) first_pairs);
          second = second_pairs;
          pi_is = λ k. between.pi_is k
              ∙ ap (λ C. composite_pi K C (graded_matrix first.pi) (graded_matrix second.pi) k) same;
          iota_is = between.iota_is;
          h_is = λ k. between.h_is k
              ∙ ap (λ C. composite_h K C (graded_matrix first.pi) (graded_matrix first.iota) (graded_matrix first.h)
              (graded_matrix second.h) k) same;
        }

    pub final-maps : AreFinalMaps K base log ending e
    final-maps = record {
      equivalence = joins (complex_of (complex_in base)) (complex_of present) (complex_of (complex_in ending.rest))
          (complex_fits K F (complex_in base) whole.base_is)
          (complex_fits K F present (present-is K F (complex_in base) log whole.present ending whole.base_is
          whole.closed whole.steps whole.ending_is))
          (complex_fits K F (complex_in ending.rest) (rest-is K F (complex_in base) log whole.present ending
          whole.base_is whole.closed whole.steps whole.ending_is))
          to_present to_rest;
      final = is-final;
    }
