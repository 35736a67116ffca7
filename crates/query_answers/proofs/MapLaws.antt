-- The maps of a reply, by the equivalence of the steps of a slot.
use Rattle.std.proofs.Common.{◌≡◌, ℕ, suc, ◌<◌, ◌≤◌, List, take, All, sym, ap, ◌∙◌, subst, arith}
use Rattle.dense_blocks.specs.Field.{Ops}
use Rattle.dense_blocks.specs.FieldLaws.{IsField}
use Rattle.cochain_vec.specs.Complexes.{CellularComplex, coordinates, total_size}
use Rattle.cochain_vec.specs.CochainComplexes.{IsCochainComplex}
use Rattle.block_complexes.specs.BlockComplexes.{BlockComplex, IsBlockComplex, HaveSameMatrices}
use Rattle.block_complexes.specs.Cochains.{complex_of}
use Rattle.block_complexes.proofs.SameLaws.{same-complex, same-block_complex}
use Rattle.removals.specs.Reductions.{IsAfter}
use Rattle.removals.proofs.ReductionLaws.{after-same-before}
use Rattle.equivalence_laws.specs.Composites.{IsCompositeOfPairs}
use Rattle.equivalence_laws.specs.Equivalences.{GradedMatrix, IsEquivalence}
use Rattle.equivalence_laws.proofs.ReductionLaws.{pairs_have_composite, pairs_tell_composite}
use Rattle.block_sparse.specs.StoredBlocks.{StoredBlocks, complex_in}
use Rattle.reduce_step.specs.declared.record.Step.{Step}
use Rattle.reduce_step.specs.Logs.{AreStepsFrom, pairs_of}
use Rattle.reduce_step.proofs.LogLaws.{steps-after}
use Rattle.pair_commit.specs.Slots.{SlotValue, IsSlot}
use Rattle.sheaf_words.specs.declared.reply.Maps.{Maps}
use Rattle.core_machine.specs.Replies.{Reduction, AreGradedBlocks, AreRightMaps}
use Rattle.equivalence_laws.specs.Equivalences.{graded_matrix}
use Rattle.equivalences.specs.Between.{IsEquivalenceOf}
use Rattle.equivalences.specs.declared.equivalence.Equivalence.{Equivalence}
use Rattle.query_answers.specs.SlotReductions.{IsReductionIn}
use Rattle.query_answers.proofs.DegreeLists.{no-cells}
use Rattle.query_answers.proofs.GradedLaws.{graded-first, matrix-first}
use Rattle.query_answers.proofs.SlotLaws.{steps-live}

-- ---- the composite, from the same block complex

pub composite-elsewhere : (K : Ops) (v v' w : BlockComplex) (pairs : List (ℕ × ℕ)) (pi iota h : GradedMatrix)
    → IsField K → IsBlockComplex K v → IsCochainComplex K (complex_of v) → HaveSameMatrices v v'
    → IsAfter K v pairs w → IsCompositeOfPairs K v pairs pi iota h → IsCompositeOfPairs K v' pairs pi iota h
composite-elsewhere K v v' w pairs pi iota h F is closed same after m =
    let own = pairs_have_composite K v' F (same-block_complex K v v' same is)
    (subst (IsCochainComplex K) (sym (same-complex v v' same)) closed) w pairs
    (after-same-before K v v' w pairs same after) in
    let tell = pairs_tell_composite K v v' pairs pi iota h own.0 own.1 own.2 F is same m own.3 in
    let pi-is : own.0 ≡ pi = λ i k. (sym (tell k).0) i in
    let iota-is : own.1 ≡ iota = λ i k. (sym (tell k).1) i in
    let h-is : own.2 ≡ h = λ i k. (sym (tell k).2) i in
    subst (λ A. IsCompositeOfPairs K v' pairs A iota h) pi-is
    (subst (λ A. IsCompositeOfPairs K v' pairs own.0 A h) iota-is
    (subst (λ A. IsCompositeOfPairs K v' pairs own.0 own.1 A) h-is own.3))

-- ---- blocks in so many degrees

-- the maps are an equivalence of C and D, with a block for each of so many degrees
pub record AreMapsOf (K : Ops) (degrees : ℕ) (C D : CellularComplex) (maps : Maps) : Type 0 where
  pub pi : AreGradedBlocks degrees (coordinates D) (coordinates C) maps.pi
  pub iota : AreGradedBlocks degrees (coordinates C) (coordinates D) maps.iota
  pub h : AreGradedBlocks degrees (coordinates C) (λ k. coordinates C (suc k)) maps.h
  pub equivalence : IsEquivalence K C D (graded_matrix maps.pi) (graded_matrix maps.iota) (graded_matrix maps.h)

none-above : (degrees : ℕ) (v : BlockComplex) → All (λ l. l.1 < degrees) v.live → (k : ℕ) → degrees ≤ k
    → coordinates (complex_of v) k ≡ 0
none-above degrees v low k l = ap total_size (no-cells degrees k v.live low l)

module _ (K : Ops) (degrees : ℕ) (v w : BlockComplex) (e : Equivalence) (maps : Maps) (few : degrees ≤ 16)
    (low : All (λ l. l.1 < degrees) v.live) (low_rest : All (λ l. l.1 < degrees) w.live)
    (pi_is : maps.pi ≡ take degrees e.pi) (iota_is : maps.iota ≡ take degrees e.iota)
    (h_is : maps.h ≡ take degrees e.h) (is : IsEquivalenceOf K (complex_of v) (complex_of w) e) where
  abbrev C : CellularComplex
  C = complex_of v

  abbrev D : CellularComplex
  D = complex_of w

  pi-same : graded_matrix maps.pi ≡ graded_matrix e.pi
  pi-same = ap graded_matrix pi_is
      ∙ (λ i k. matrix-first degrees (coordinates D) e.pi (λ k b at. (is.maps.pi k b at).rows_are)
      (none-above degrees w low_rest) k i)

  iota-same : graded_matrix maps.iota ≡ graded_matrix e.iota
  iota-same = ap graded_matrix iota_is
      ∙ (λ i k. matrix-first degrees (coordinates C) e.iota (λ k b at. (is.maps.iota k b at).rows_are)
      (none-above degrees v low) k i)

  h-same : graded_matrix maps.h ≡ graded_matrix e.h
  h-same = ap graded_matrix h_is
      ∙ (λ i k. matrix-first degrees (coordinates C) e.h (λ k b at. (is.maps.h k b at).rows_are)
      (none-above degrees v low) k i)

  -- what holds of the matrices of all degrees
  pub first-degrees : (P : (pi iota h : GradedMatrix) → Type 0)
      → P (graded_matrix e.pi) (graded_matrix e.iota) (graded_matrix e.h)
      → P (graded_matrix maps.pi) (graded_matrix maps.iota) (graded_matrix maps.h)
  first-degrees P h =
      subst (λ A. P A (graded_matrix maps.iota) (graded_matrix maps.h)) (sym pi-same)
      (subst (λ A. P (graded_matrix e.pi) A (graded_matrix maps.h)) (sym iota-same)
      (subst (λ A. P (graded_matrix e.pi) (graded_matrix e.iota) A) (sym h-same) h))

  pub are-maps : AreMapsOf K degrees C D maps
  are-maps = record {
    pi = subst (AreGradedBlocks degrees (coordinates D) (coordinates C)) (sym pi_is)
        (graded-first degrees (coordinates D) (coordinates C) e.pi (omega (arith, few, e.pi_count)) (record {
          rows = λ k b at. (is.maps.pi k b at).rows_are;
          columns = λ k b at. (is.maps.pi k b at).columns_are;
        }));
    iota = subst (AreGradedBlocks degrees (coordinates C) (coordinates D)) (sym iota_is)
        (graded-first degrees (coordinates C) (coordinates D) e.iota (omega (arith, few, e.iota_count)) (record {
          rows = λ k b at. (is.maps.iota k b at).rows_are;
          columns = λ k b at. (is.maps.iota k b at).columns_are;
        }));
    h = subst (AreGradedBlocks degrees (coordinates C) (λ k. coordinates C (suc k))) (sym h_is)
        (graded-first degrees (coordinates C) (λ k. coordinates C (suc k)) e.h (omega (arith, few, e.h_count)) (record {
          rows = λ k b at. (is.maps.h k b at).rows_are;
          columns = λ k b at. (is.maps.h k b at).columns_are;
        }));
    equivalence = first-degrees (IsEquivalence K C D) is.equivalence;
  }

-- ---- the reply for a slot

-- so many first blocks of the equivalence of a slot's steps, and the live cells of its base
pub record AreMapsFrom {F : Type 0} (K : Ops) (degrees : ℕ) (slot : SlotValue F) (e : Equivalence) (maps : Maps) :
    Type 0 where
  pub few : degrees ≤ 16
  pub low : All (λ l. l.1 < degrees) slot.base.live
  pub over : IsBlockComplex K (complex_in slot.base)
  pub closed : IsCochainComplex K (complex_of (complex_in slot.base))
  pub steps : AreStepsFrom K (complex_in slot.base) slot.log (complex_in slot.present)
  pub composite : IsCompositeOfPairs K (complex_in slot.base) (pairs_of slot.log)
      (graded_matrix e.pi) (graded_matrix e.iota) (graded_matrix e.h)
  pub equivalence : IsEquivalenceOf K (complex_of (complex_in slot.base)) (complex_of (complex_in slot.present)) e
  pub base : maps.base ≡ slot.base.live
  pub pi : maps.pi ≡ take degrees e.pi
  pub iota : maps.iota ≡ take degrees e.iota
  pub h : maps.h ≡ take degrees e.h

module _ {F : Type 0} (K : Ops) (degrees : ℕ) (slot : SlotValue F) (e : Equivalence) (maps : Maps)
    (from : AreMapsFrom K degrees slot e maps) (r : Reduction) (is : IsReductionIn degrees slot r)
    (start : HaveSameMatrices (complex_in slot.base) r.start) where
  low_rest : All (λ l. l.1 < degrees) slot.present.live
  low_rest = steps-live K (λ l. l.1 < degrees) slot.log (complex_in slot.base) (complex_in slot.present) from.steps
      from.low

  right : AreMapsOf K r.degrees (complex_of r.start) (complex_of r.rest) maps
  right =
      subst (λ C. AreMapsOf K r.degrees C (complex_of r.rest) maps)
      (sym (same-complex (complex_in slot.base) r.start start))
      (subst (λ D. AreMapsOf K r.degrees (complex_of (complex_in slot.base)) D maps)
      (sym (same-complex (complex_in slot.present) r.rest is.rest))
      (subst (λ n. AreMapsOf K n (complex_of (complex_in slot.base)) (complex_of (complex_in slot.present)) maps)
      (sym is.degrees_are)
      (are-maps K degrees (complex_in slot.base) (complex_in slot.present) e maps from.few from.low low_rest from.pi
      from.iota from.h from.equivalence)))

  pub maps-right : AreRightMaps K r maps
  maps-right = record {
    base = from.base ∙ sym start.live;
    pi_shapes = right.pi;
    iota_shapes = right.iota;
    h_shapes = right.h;
    equivalence = right.equivalence;
  }

  pub maps-composite : IsField K → IsCompositeOfPairs K r.start r.pairs
      (graded_matrix maps.pi) (graded_matrix maps.iota) (graded_matrix maps.h)
  maps-composite field =
      subst (λ ps. IsCompositeOfPairs K r.start ps (graded_matrix maps.pi) (graded_matrix maps.iota)
      (graded_matrix maps.h)) (sym is.pairs)
      (composite-elsewhere K (complex_in slot.base) r.start (complex_in slot.present) (pairs_of slot.log)
      (graded_matrix maps.pi) (graded_matrix maps.iota) (graded_matrix maps.h) field from.over from.closed start
      (steps-after K slot.log (complex_in slot.base) (complex_in slot.present) from.steps)
      (first-degrees K degrees (complex_in slot.base) (complex_in slot.present) e maps from.few from.low low_rest
      from.pi from.iota from.h from.equivalence (IsCompositeOfPairs K (complex_in slot.base) (pairs_of slot.log))
      from.composite))

-- what holds of a slot holds of its parts as they were read, and the other way round
module _ {F : Type 0} (ops : F → Ops) (slot : SlotValue F) (f : F) (v : StoredBlocks) (log : List Step)
    (f_is : f ≡ slot.f) (v_is : v ≡ slot.base) (log_is : log ≡ slot.log) where
  pub at_parts : (P : F → StoredBlocks → List Step → Type 0) → P slot.f slot.base slot.log → P f v log
  at_parts P h =
      subst (λ x. P x v log) (sym f_is)
      (subst (λ x. P slot.f x log) (sym v_is) (subst (λ x. P slot.f slot.base x) (sym log_is) h))

  pub at_slot : (P : F → StoredBlocks → List Step → Type 0) → P f v log → P slot.f slot.base slot.log
  at_slot P h =
      subst (λ x. P slot.f slot.base x) log_is
      (subst (λ x. P slot.f x log) v_is (subst (λ x. P x v log) f_is h))

  module _ (degrees : ℕ) (e : Equivalence) (few : degrees ≤ 16) (low : All (λ l. l.1 < degrees) slot.base.live)
      (closed : IsCochainComplex (ops slot.f) (complex_of (complex_in slot.base)))
      (is : IsSlot (ops slot.f) slot.base slot.present slot.log slot.carried)
      (composite : IsCompositeOfPairs (ops f) (complex_in v) (pairs_of log)
      (graded_matrix e.pi) (graded_matrix e.iota) (graded_matrix e.h))
      (equivalence : (w : BlockComplex) → AreStepsFrom (ops f) (complex_in v) log w
      → IsEquivalenceOf (ops f) (complex_of (complex_in v)) (complex_of w) e)
      (maps : Maps) (base_is : maps.base ≡ slot.base.live) (pi_is : maps.pi ≡ take degrees e.pi)
      (iota_is : maps.iota ≡ take degrees e.iota) (h_is : maps.h ≡ take degrees e.h) where
    pub slot-maps : AreMapsFrom (ops slot.f) degrees slot e maps
    slot-maps = record {
      few = few;
      low = low;
      over = is.base_is;
      closed = closed;
      steps = is.steps;
      composite = at_slot (λ f v log. IsCompositeOfPairs (ops f) (complex_in v) (pairs_of log)
          (graded_matrix e.pi) (graded_matrix e.iota) (graded_matrix e.h)) composite;
      equivalence = at_slot (λ f v log. (w : BlockComplex) → AreStepsFrom (ops f) (complex_in v) log w
          → IsEquivalenceOf (ops f) (complex_of (complex_in v)) (complex_of w) e) equivalence
          (complex_in slot.present) is.steps;
      base = base_is;
      pi = pi_is;
      iota = iota_is;
      h = h_is;
    }
