-- What keeps a slot a slot: a mark, a commit, and a pivot that is carried no more; and what a slot gives may be
-- finished.
use Rattle.std.proofs.Common.{◌≡◌, ◌<◌, ℕ, Bool, true, false, cond, List, [], ◌∷◌, map, drop, get_or, length}
use Rattle.std.proofs.Common.{Result, Ok, Err, All, refl, sym, ap, subst, inl, inr, arith}
use Rattle.std.specs.Prelude.{IfOk, OnErr}
use Rattle.std.proofs.lemmas.List.Elements.{All-head, All-tail, All-nil, All-cons, All-drop}
use Rattle.dense_blocks.specs.Field.{Ops}
use Rattle.dense_blocks.specs.FieldLaws.{IsField}
use Rattle.dense_blocks.specs.Blocks.{matrix_of}
use Rattle.dense_blocks.specs.declared.block.Block.{Block}
use Rattle.dense_blocks.specs.Inverses.{InKernel, IsInverseBlock}
use Rattle.block_complexes.specs.BlockComplexes.{BlockComplex}
use Rattle.block_complexes.proofs.SameLaws.{same-block_complex}
use Rattle.removals.specs.Removals.{IsRemoval}
use Rattle.block_sparse.specs.StoredBlocks.{StoredBlocks, StandsAt, complex_in}
use Rattle.pair_find.specs.Pairs.{IsNextFrom}
use Rattle.reduce_step.specs.declared.record.Step.{Step}
use Rattle.reduce_step.specs.Records.{RecordValue}
use Rattle.reduce_step.specs.Differences.{Fits}
use Rattle.reduce_step.specs.Logs.{AreStepsFrom}
use Rattle.reduce_step.proofs.LogLaws.{steps-same-after, steps-more}
use Rattle.pair_commit.specs.declared.kept.Kept.{Kept}
use Rattle.pair_commit.specs.declared.work.Work.{Work}
use Rattle.pair_commit.specs.declared.work.Work.TheVariants.{Carried, Dropped, Try, Finished}
use Rattle.pair_commit.specs.Slots.{SlotValue, IsSlot, KeepsInverse}
use Rattle.pair_commit.specs.Takes.{HasCandidate, Takes}
use Rattle.pair_commit.specs.Commits.{IsAppended, IsCommitted, kept_of, is_first, without_first}
use Rattle.pair_commit.proofs.FlagLaws.{IsFlagged, flagged-same, flagged-singular}

-- the next candidate is one
pub next-candidate : (v : StoredBlocks) (from pair : ℕ × ℕ) → IsNextFrom v from pair → HasCandidate v
next-candidate v from pair h =
    elim h [ inl f ↦ (pair.0, pair.1, f.candidate) | inr f ↦ (pair.0, pair.1, f.1.candidate) ]

-- a list by its first member
pub first-is : (ks : List Kept) (k : Kept) → 0 < length ks → k ≡ get_or ks 0 k → ks ≡ k ∷ drop 1 ks
first-is [] k l e = absurd (omega (arith, l))
first-is (x ∷ ks) k l e = ap (λ y. y ∷ ks) (sym e)

-- the first member's inverse is that of its pivot
pub first-inverse : (K : Ops) (ks : List Kept) (k : Kept) (rest : List Kept) (pivot inverse : Block) → ks ≡ k ∷ rest
    → All (KeepsInverse K) ks → pivot ≡ k.pivot → inverse ≡ k.inverse → IsInverseBlock K pivot inverse
first-inverse K ks k rest pivot inverse e all p i =
    let first = All-head (KeepsInverse K) k rest (subst (All (KeepsInverse K)) e all) in
    subst (λ b. IsInverseBlock K b inverse) (sym p) (subst (λ b. IsInverseBlock K k.pivot b) (sym i) first.inverse)

module _ (K : Ops) (F : IsField K) (base v : StoredBlocks) (log : List Step) (carried : List Kept)
    (h : IsSlot K base v log carried) where
  pub marked-slot : (w : StoredBlocks) (s t : ℕ) (b : Block) (kernel : List ℕ) → IsFlagged v w s t → StandsAt v s t b
      → b.rows ≡ b.cols → InKernel K b.rows (matrix_of b) kernel → IsSlot K base w log carried
  marked-slot w s t b kernel flag stands square in_kernel = record {
    base_is = h.base_is;
    present_is = same-block_complex K (complex_in v) (complex_in w) (flagged-same v w s t flag) h.present_is;
    steps = steps-same-after K log (complex_in base) (complex_in v) (complex_in w) h.steps (flagged-same v w s t flag);
    flags = flagged-singular v w s t flag K F h.present_is h.flags b kernel stands square in_kernel;
    inverses = h.inverses;
  }

  pub committed-slot : {T : Type 0} (r : RecordValue T) (w : StoredBlocks) (longer : List Step) (after : List Kept)
      (x y : ℕ) → IsAppended K r v w log longer → after ≡ without_first x y carried → IsSlot K base w longer after
  committed-slot r w longer after x y a e = record {
    base_is = h.base_is;
    present_is = a.block_complex;
    steps = subst (λ l. AreStepsFrom K (complex_in base) l (complex_in w)) (sym a.logged)
        (steps-more K log a.step (complex_in base) (complex_in v) (complex_in w) h.steps a.step_from removal);
    flags = a.singular h.flags;
    inverses = subst (All (KeepsInverse K)) (sym e) (off (is_first x y carried));
  }
    where
      off : (b : Bool) → All (KeepsInverse K) (cond b (drop 1 carried) carried)
      off true = All-drop (KeepsInverse K) 1 carried h.inverses
      off false = h.inverses

      removal : IsRemoval K (complex_in v) a.step.x a.step.y (matrix_of a.step.inverse) (complex_in w)
      removal =
          let is = a.step_is in
          subst (λ x. IsRemoval K (complex_in v) x a.step.y (matrix_of a.step.inverse) (complex_in w)) (sym is.from)
          (subst (λ y. IsRemoval K (complex_in v) r.foot.x y (matrix_of a.step.inverse) (complex_in w)) (sym is.to)
          (subst (λ i. IsRemoval K (complex_in v) r.foot.x r.foot.y (matrix_of i) (complex_in w)) (sym is.inverse)
          a.removal))

-- what is carried after something is given has been carried before
module _ (K : Ops) (v : StoredBlocks) (carried : List Kept) (kept : All (KeepsInverse K) carried) where
  takes-inverses : (from : ℕ × ℕ) (work : Work) (after : List Kept) → Takes v carried from work after
      → All (KeepsInverse K) after
  takes-inverses from (Carried foot inverse) after t = subst (All (KeepsInverse K)) (sym t.2) kept
  takes-inverses from (Dropped x y) after t =
      All-tail (KeepsInverse K) t.1.kept after (subst (All (KeepsInverse K)) t.1.first kept)
  takes-inverses from (Try foot) after t = subst (All (KeepsInverse K)) (sym t.2) kept
  takes-inverses from Finished after t = subst (All (KeepsInverse K)) (sym t.1) kept

  pub next-inverses : {E : Type 0} (from : ℕ × ℕ) (r : Result Work E) (after : List Kept)
      → IfOk r (λ work. Takes v carried from work after) → OnErr r (after ≡ carried) → All (KeepsInverse K) after
  next-inverses from (Ok work) after ok err = takes-inverses from work after ok
  next-inverses from (Err e) after ok err = subst (All (KeepsInverse K)) (sym err) kept

-- the slot after a commit
pub committed : {T : Type 0} (K : Ops) (s old : SlotValue T) (r : RecordValue T) (w : StoredBlocks)
    (longer : List Step) (after : List Kept) → s ≡ old → Fits s.present r.foot → IsAppended K r s.present w s.log longer
    → after ≡ without_first r.foot.x r.foot.y s.carried
    → IsCommitted K old r (record { f = s.f; base = s.base; present = w; log = longer; carried = after })
committed K s old r w longer after same fits a e =
    let new : SlotValue _ = record { f = s.f; base = s.base; present = w; log = longer; carried = after } in
    subst (λ o. IsCommitted K o r new) same (record {
      fits = fits;
      field = refl;
      base = refl;
      step = a.step;
      step_is = a.step_is;
      log = a.logged;
      removal = a.removal;
      flags = a.flags;
      carried = e;
    })

-- each step keeps an inverse
steps-inverses : (K : Ops) (steps : List Step) (v w : BlockComplex) → AreStepsFrom K v steps w
    → All (KeepsInverse K) (map kept_of steps)
steps-inverses K [] v w h = All-nil (KeepsInverse K)
steps-inverses K (step ∷ steps) v w h =
    All-cons (KeepsInverse K) (kept_of step) (map kept_of steps)
    (record { square = step.parts.square; inverse = h.1.inverse }) (steps-inverses K steps h.0 w h.3)

pub log-inverses : {V E : Type 0} (K : Ops) (items : V → List Kept) (steps : List Step) (v w : BlockComplex)
    (r : Result V E) → AreStepsFrom K v steps w → IfOk r (λ l. items l ≡ map kept_of steps)
    → IfOk r (λ l. All (KeepsInverse K) (items l))
log-inverses K items steps v w (Ok l) h e = subst (All (KeepsInverse K)) (sym e) (steps-inverses K steps v w h)
log-inverses K items steps v w (Err x) h e = tt
