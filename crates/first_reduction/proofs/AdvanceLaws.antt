-- One pair more: what a commit and a flag make of a slot, at the first pair to be tried.
use Rattle.std.proofs.Common.{◌≡◌, ℕ, List, [], ◌∷◌, ◌++◌, Result}
use Rattle.std.proofs.Common.{Ok, Err, refl, sym, ap, ap₂, ◌∙◌, subst, append-nil}
use Rattle.std.proofs.Common.{append_assoc, Option, Some, None, inl, inr, true}
use Rattle.std.specs.Prelude.{OnOk, MatchOption, ◌==◌, is_some}
use Rattle.std.proofs.lemmas.Bool.{eqb-true, and_parts}
use Rattle.std.proofs.lemmas.List.{map-append}
use Rattle.dense_blocks.specs.Field.{Ops}
use Rattle.dense_blocks.specs.FieldLaws.{IsField}
use Rattle.dense_blocks.specs.Blocks.{matrix_of}
use Rattle.dense_blocks.specs.declared.block.Block.{Block}
use Rattle.block_complexes.specs.BlockComplexes.{size_of}
use Rattle.block_sparse.specs.StoredBlocks.{StoredBlocks, StoredBlock, StandsAt, block_at, complex_in}
use Rattle.block_sparse.specs.Candidates.{is_candidate, is_unflagged}
use Rattle.block_sparse.specs.Invariants.{IsSound}
use Rattle.pair_find.specs.Pairs.{IsFirstFrom, IsNextFrom}
use Rattle.reduce_step.specs.declared.footprint.Footprint.{Footprint}
use Rattle.reduce_step.specs.declared.record.Step.{Step}
use Rattle.reduce_step.specs.Footprints.{IsFootprint}
use Rattle.reduce_step.specs.Differences.{Fits}
use Rattle.reduce_step.specs.Logs.{pairs_of}
use Rattle.reduce_step.specs.Records.{RecordValue}
use Rattle.reduce_step.proofs.StandingLaws.{footprint-fits, pivot-stands}
use Rattle.pair_commit.specs.Slots.{SlotValue, FlagsAreSingular, IsSlot, IsTried}
use Rattle.pair_commit.specs.Commits.{IsCommitted, IsMarked}
use Rattle.pair_commit.specs.Takes.{IsTry, Takes}
use Rattle.pair_commit.specs.declared.work.Work.{Work}
use Rattle.pair_commit.specs.declared.work.Work.TheVariants.{Try}
use Rattle.pair_commit.specs.declared.kept.Kept.{Kept}
use Rattle.pair_commit.proofs.FlagLaws.{flagged-same, tried-irreducible}
use Rattle.first_reduction.specs.Advances.{IsFirstFootprint, IsBeginning, IsOnTheWay, IsAdvance, IsReduced}
use Rattle.first_reduction.proofs.WorkLaws.{removed-less, flagged-less}
use Rattle.first_reduction.proofs.FirstLaws.{beginning-same}
use Rattle.first_reduction.proofs.FirstLaws.{beginning-one, beginning-then, beginning-end}
use Rattle.first_reduction.proofs.FirstLaws.{first-invertible}

-- what follows from a good answer
pub weaker : {A E : Type 0} (r : Result A E) (P Q : Type 0) → (P → Q) → OnOk r P → OnOk r Q
weaker (Ok a) P Q f p = f p
weaker (Err e) P Q f p = tt

unflagged-some : (o : Option StoredBlock) → is_unflagged o ≡ true → is_some o ≡ true
unflagged-some None e = cc
unflagged-some (Some b) e = refl

-- what is to be tried first is the first footprint
pub try-first : (v : StoredBlocks) (carried : List Kept) (foot : Footprint) → IsTry v carried (0, 0) foot
    → IsFirstFootprint v foot
try-first v carried foot t =
    (subst (IsFirstFrom v (0, 0)) same (first t.next), subst (λ p. IsFootprint v p.0 p.1 foot) same t.footprint)
  where
    same : t.pair ≡ (foot.x, foot.y)
    same = ap₂ (λ x y. (x, y)) (sym t.footprint.from) (sym t.footprint.to)

    first : IsNextFrom v (0, 0) t.pair → IsFirstFrom v (0, 0) t.pair
    first (inl f) = f
    first (inr f) = f.1

pub work-first : (v : StoredBlocks) (carried after : List Kept) (work : Work) (foot : Footprint) → work ≡ Try foot
    → Takes v carried (0, 0) work after → IsFirstFootprint v foot
work-first v carried after work foot e takes =
    try-first v carried foot (subst (λ w. Takes v carried (0, 0) w after) e takes).1

pub none-tried : (v w : StoredBlocks) (o : Option Footprint) → o ≡ None
    → MatchOption o (IsTried v) (IsFirstFootprint w) → IsTried v
none-tried v w o e h = subst (λ x. MatchOption x (IsTried v) (IsFirstFootprint w)) e h

module _ (K : Ops) (F : IsField K) {T : Type 0} (old : SlotValue T)
    (sound : IsSound old.present.live old.present.rows old.present.columns)
    (slot : IsSlot K old.base old.present old.log old.carried) (foot : Footprint)
    (first : IsFirstFootprint old.present foot) where
  stands : is_some (block_at old.present foot.x foot.y) ≡ true
  stands = unflagged-some (block_at old.present foot.x foot.y)
      (and_parts (is_unflagged (block_at old.present foot.x foot.y))
      (size_of old.present.live foot.x == size_of old.present.live foot.y) first.0.candidate).0

  square : size_of old.present.live foot.y ≡ size_of old.present.live foot.x
  square = sym (eqb-true (size_of old.present.live foot.x) (size_of old.present.live foot.y)
      (and_parts (is_unflagged (block_at old.present foot.x foot.y))
      (size_of old.present.live foot.x == size_of old.present.live foot.y) first.0.candidate).1)

  pub first-fits : Fits old.present foot
  first-fits = footprint-fits K F old.present sound slot.present_is foot stands square first.1

  pub first-stands : StandsAt old.present foot.x foot.y foot.pivot
  first-stands = pivot-stands K F old.present sound slot.present_is foot stands square first.1

  pub committed-advance : (r : RecordValue T) (new : SlotValue T) → r.foot ≡ foot → IsCommitted K old r new
      → IsAdvance K old new
  committed-advance r new same c = (
    record {
      steps = c.step ∷ [];
      log = c.log;
      beginning = subst (λ p. IsBeginning K (complex_in old.present) (p ∷ []) (complex_in new.present))
          (ap₂ (λ x y. (x, y)) (sym c.step_is.from) (sym c.step_is.to))
          (beginning-one K (complex_in old.present) (complex_in new.present) r.foot.x r.foot.y (matrix_of r.inverse)
          (first-invertible K F old.present sound slot.flags r.foot.x r.foot.y
          (subst (λ f. IsFirstFrom old.present (0, 0) (f.x, f.y)) (sym same) first.0)) c.removal);
    },
    removed-less old.present new.present r.foot.x r.foot.y c.removal.pair.from c.removal.live,
  )

  pub marked-advance : (x y : ℕ) (b : Block) (new : SlotValue T) → x ≡ foot.x → y ≡ foot.y → IsMarked old x y b new
      → IsAdvance K old new
  marked-advance x y b new ex ey m = (
    record {
      steps = [];
      log = m.log ∙ sym (append-nil old.log);
      beginning = beginning-same K (complex_in old.present) (complex_in new.present)
          (flagged-same old.present new.present x y (record { live = m.live; blocks = m.blocks }));
    },
    flagged-less old.present new.present x y m.live m.blocks
        (subst {A = ℕ × ℕ} (λ p. is_candidate old.present p.0 p.1 ≡ true)
        (ap₂ (λ a b. (a, b)) (sym ex) (sym ey)) first.0.candidate)
        m.stands.fits.between.from m.stands.fits.between.to,
  )

  -- the pivot of a footprint without an inverse
  pub singular-stands : (x y : ℕ) (b : Block) → x ≡ foot.x → y ≡ foot.y → b ≡ foot.pivot → StandsAt old.present x y b
  singular-stands x y b ex ey e = subst (StandsAt old.present x y) (sym e)
      (subst (λ t. StandsAt old.present x t foot.pivot) (sym ey)
      (subst (λ s. StandsAt old.present s foot.y foot.pivot) (sym ex) first-stands))

-- ---- the way

pub way-then : (K : Ops) {T : Type 0} (a b c : SlotValue T) → IsOnTheWay K a b → IsOnTheWay K b c → IsOnTheWay K a c
way-then K a b c h g = record {
  steps = h.steps ++ g.steps;
  log = g.log ∙ ap (λ l. l ++ g.steps) h.log ∙ append_assoc a.log h.steps g.steps;
  beginning = subst (λ ps. IsBeginning K (complex_in a.present) ps (complex_in c.present))
      (sym (map-append (λ (step : Step). (step.x, step.y)) h.steps g.steps))
      (beginning-then K (complex_in a.present) (complex_in b.present) (complex_in c.present) (pairs_of h.steps)
      (pairs_of g.steps) h.beginning g.beginning);
}

-- one advance more, where nothing changed before it
pub way-step : {T : Type 0} (ops : T → Ops) (start now here next : SlotValue T) → here ≡ now → now.f ≡ start.f
    → IsAdvance (ops here.f) here next → IsOnTheWay (ops start.f) start now → IsOnTheWay (ops start.f) start next
way-step {T} ops start now here next e f a h =
    way-then (ops start.f) start now next h
    (subst {A = T} (λ x. IsOnTheWay (ops x) now next) f (subst (λ s. IsAdvance (ops s.f) s next) e a).0)

pub way-over : {T : Type 0} (ops : T → Ops) (start now here : SlotValue T) → IsField (ops start.f) → here ≡ now
    → now.f ≡ start.f → IsSound here.present.live here.present.rows here.present.columns
    → FlagsAreSingular (ops here.f) here.present → IsTried now.present → IsOnTheWay (ops start.f) start now
    → IsReduced (ops start.f) start here
way-over {T} ops start now here F e f sound singular tried h = subst (IsReduced (ops start.f) start) (sym e) (record {
  steps = h.steps;
  log = h.log;
  reduction = beginning-end (ops start.f) (complex_in start.present) (complex_in now.present) (pairs_of h.steps)
      h.beginning (tried-irreducible (ops start.f) F now.present
      (subst (λ s. IsSound s.present.live s.present.rows s.present.columns) e sound)
      (subst {A = T} (λ x. FlagsAreSingular (ops x) now.present) f
      (subst (λ s. FlagsAreSingular (ops s.f) s.present) e singular)) tried);
  tried = tried;
})
