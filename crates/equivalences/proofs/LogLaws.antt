-- The maps of a log, step by step, and the equivalence that they are.
use Rattle.std.proofs.Common.{◌≡◌, ℕ, ◌+◌, ◌<◌, List, [], ◌∷◌, ◌++◌, length, take, drop, get_or}
use Rattle.std.proofs.Common.{refl, sym, ap, ap₂, ◌∙◌, subst}
use Rattle.std.proofs.lemmas.List.{take_more, drop_more, map-append}
use Rattle.dense_blocks.specs.Field.{Ops}
use Rattle.dense_blocks.specs.FieldLaws.{IsField}
use Rattle.block_complexes.specs.BlockComplexes.{BlockComplex, IsBlockComplex}
use Rattle.block_complexes.specs.Cochains.{complex_of}
use Rattle.cochain_vec.specs.CochainComplexes.{IsCochainComplex}
use Rattle.reduce_step.specs.declared.record.Step.{Step}
use Rattle.reduce_step.specs.Logs.{AreStepsFrom, pairs_of}
use Rattle.equivalence_laws.specs.RemovalMaps.{Removal, IsRemovalFrom}
use Rattle.equivalence_laws.specs.Composites.{AreRemovals, removal_pairs, rest_of}
use Rattle.equivalence_laws.proofs.NextComposite.{rest-more}
use Rattle.equivalence_laws.specs.CellMaps.{CellMaps, AreCellMapsOf}
use Rattle.equivalences.specs.LogMaps.{IsNextStep, HasNextStep, TakesStep, step_removal}
use Rattle.equivalence_laws.specs.CellMaps.{AreFirstMaps}
use Rattle.equivalence_laws.proofs.StartLaws.{first_maps}

-- after i steps: the maps are those of removals of their pairs, and the other steps go on from what these leave
abbrev pub AreMapsAt : Ops → BlockComplex → List Step → ℕ → CellMaps → Type 0
AreMapsAt K v log i m = (rs : List Removal) × (w : BlockComplex) × AreRemovals K v rs
    × (removal_pairs rs ≡ pairs_of (take i log)) × AreCellMapsOf K v rs m × AreStepsFrom K (rest_of v rs) (drop i log) w

removals-more : (K : Ops) (v : BlockComplex) (rs : List Removal) (r : Removal) → AreRemovals K v rs
    → IsRemovalFrom K (rest_of v rs) r → AreRemovals K v (rs ++ r ∷ [])
removals-more K v [] r h removal = (removal, tt)
removals-more K v (q ∷ qs) r h removal = (h.0, removals-more K q.rest qs r h.1 removal)

pub at-start : (K : Ops) (F : IsField K) (v : BlockComplex) (log : List Step) (w : BlockComplex) (m : CellMaps)
    → IsBlockComplex K v → AreFirstMaps v m → AreStepsFrom K v log w → AreMapsAt K v log 0 m
at-start K F v log w m is first steps = ([], w, tt, refl, first_maps K F v is.rising m first, steps)

-- the step at i is the next
steps-at : (K : Ops) (u w : BlockComplex) (log : List Step) (i : ℕ) (step : Step) → i < length log
    → step ≡ get_or log i step → AreStepsFrom K u (drop i log) w → AreStepsFrom K u (step ∷ drop (i + 1) log) w
steps-at K u w log i step l e h = subst (λ steps. AreStepsFrom K u steps w) (drop_more log i step l
    ∙ ap (λ s. s ∷ drop (i + 1) log) (sym e)) h

module _ (K : Ops) (v : BlockComplex) (log : List Step) (i : ℕ) (step : Step) (m : CellMaps)
    (is : IsBlockComplex K v) (closed : IsCochainComplex K (complex_of v)) (l : i < length log)
    (e : step ≡ get_or log i step) (at : AreMapsAt K v log i m) where
  later : AreStepsFrom K (rest_of v at.0) (step ∷ drop (i + 1) log) at.1
  later = steps-at K (rest_of v at.0) at.1 log i step l e at.5

  next : IsNextStep K v at.0 m step later.0
  next = record {
    block_complex = is;
    cochain_complex = closed;
    removals = at.2;
    maps = at.4;
    step_from = later.1;
    removal = later.2;
  }

  pub at-next : (m' : CellMaps) → TakesStep K m step m' → AreMapsAt K v log (i + 1) m'
  at-next m' takes =
      let rs = at.0 in
      let r = step_removal step later.0 in (
        rs ++ r ∷ [],
        at.1,
        removals-more K v rs r at.2 later.2,
        map-append (λ (r : Removal). (r.x, r.y)) rs (r ∷ [])
            ∙ ap₂ ◌++◌ at.3 (ap (λ (s : Step). (s.x, s.y) ∷ []) e)
            ∙ sym (ap pairs_of (take_more log i step l)
            ∙ map-append (λ (s : Step). (s.x, s.y)) (take i log) (get_or log i step ∷ [])),
        takes v rs later.0 next,
        subst (λ u. AreStepsFrom K u (drop (i + 1) log) at.1) (sym (rest-more v rs r)) later.3,
      )
