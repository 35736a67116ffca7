-- Slots: a block complex, and what the steps made so far have left of it.
use Rattle.std.specs.Prelude.{◌≡◌, ℕ, true, false, List, All}
use Rattle.dense_blocks.specs.Field.{Ops}
use Rattle.dense_blocks.specs.Inverses.{IsInverseBlock}
use Rattle.block_complexes.specs.BlockComplexes.{IsBlockComplex}
use Rattle.removals.specs.Reductions.{IsInvertibleAt}
use Rattle.block_sparse.specs.StoredBlocks.{StoredBlocks, complex_in, block_at, flag_of}
use Rattle.block_sparse.specs.Candidates.{is_candidate}
use Rattle.reduce_step.specs.declared.record.Step.{Step}
use Rattle.reduce_step.specs.Logs.{AreStepsFrom}
use Rattle.pair_commit.specs.declared.kept.Kept.{Kept}

-- a field; the block complex at the start and at present; the steps that lead from one to the other; and pivots with
-- their inverses that were kept elsewhere and are to be tried first
pub record SlotValue (F : Type 0) : Type 0 where
  pub f : F
  pub base : StoredBlocks
  pub present : StoredBlocks
  pub log : List Step
  pub carried : List Kept

-- no block with a flag has an inverse
abbrev pub FlagsAreSingular : Ops → StoredBlocks → Type 0
FlagsAreSingular K v = (s t : ℕ) → flag_of (block_at v s t) ≡ true → IsInvertibleAt K (complex_in v) s t → ⊥

-- each square block has a flag: none is left to be tried
abbrev pub IsTried : StoredBlocks → Type 0
IsTried v = (s t : ℕ) → is_candidate v s t ≡ false

-- a square block, and its two-sided inverse
pub record KeepsInverse (K : Ops) (kept : Kept) : Type 0 where
  pub square : kept.pivot.rows ≡ kept.pivot.cols
  pub inverse : IsInverseBlock K kept.pivot kept.inverse

-- both are block complexes over the field; the log is a list of removals that leads from the start to the present; no
-- block with a flag has an inverse; and what is carried are pivots with their inverses
pub record IsSlot (K : Ops) (base present : StoredBlocks) (log : List Step) (carried : List Kept) : Type 0 where
  pub base_is : IsBlockComplex K (complex_in base)
  pub present_is : IsBlockComplex K (complex_in present)
  pub steps : AreStepsFrom K (complex_in base) log (complex_in present)
  pub flags : FlagsAreSingular K present
  pub inverses : All (KeepsInverse K) carried
