-- What a commit and a mark make of a slot.
use Rattle.std.specs.Prelude.{◌≡◌, ◌==◌, ◌&&◌, ◌++◌, ℕ, Bool, false, List, [], ◌∷◌, drop, if◌then◌else◌}
use Rattle.dense_blocks.specs.Field.{Ops}
use Rattle.dense_blocks.specs.Blocks.{matrix_of}
use Rattle.dense_blocks.specs.declared.block.Block.{Block}
use Rattle.block_complexes.specs.BlockComplexes.{IsBlockComplex}
use Rattle.removals.specs.Removals.{IsRemoval}
use Rattle.block_sparse.specs.StoredBlocks.{StoredBlocks, StandsAt, complex_in, block_at, with_flag}
use Rattle.block_sparse.specs.Flags.{KeepsFlags}
use Rattle.reduce_step.specs.declared.footprint.Footprint.{Footprint}
use Rattle.reduce_step.specs.declared.record.Step.{Step}
use Rattle.reduce_step.specs.Logs.{IsStepFrom}
use Rattle.reduce_step.specs.Differences.{Fits, IsFirstDifference}
use Rattle.reduce_step.specs.Records.{RecordValue}
use Rattle.reduce_step.specs.Steps.{IsStepOf}
use Rattle.pair_commit.specs.declared.kept.Kept.{Kept}
use Rattle.pair_commit.specs.declared.work.CommitFault.{CommitFault}
use Rattle.pair_commit.specs.declared.work.CommitFault.TheVariants.{Stale, NoMemory}
use Rattle.pair_commit.specs.Slots.{SlotValue, FlagsAreSingular}

-- what a step inverted
abbrev pub kept_of : Step → Kept
kept_of step = record { x = step.x; y = step.y; pivot = step.pivot; inverse = step.inverse }

-- whether the first member is of this pair
abbrev pub is_first : ℕ → ℕ → List Kept → Bool
is_first x y [] = false
is_first x y (k ∷ ks) = k.x == x && k.y == y

-- without the first member, if it is of this pair
abbrev pub without_first : ℕ → ℕ → List Kept → List Kept
without_first x y ks = if is_first x y ks then drop 1 ks else ks

-- the record's pair is removed, and its step stands last in the log; flags still stand at singular blocks alone
pub record IsAppended {F : Type 0} (K : Ops) (r : RecordValue F) (old new : StoredBlocks) (log longer : List Step) :
    Type 0 where
  pub step : Step
  pub step_is : IsStepOf r step
  pub step_from : IsStepFrom K (complex_in old) step
  pub logged : longer ≡ log ++ step ∷ []
  pub removal : IsRemoval K (complex_in old) r.foot.x r.foot.y (matrix_of r.inverse) (complex_in new)
  pub flags : KeepsFlags old r.foot.x r.foot.y new
  pub block_complex : IsBlockComplex K (complex_in new)
  pub singular : FlagsAreSingular K old → FlagsAreSingular K new

-- the record fits, its pair is removed, its step stands last in the log, and it is no longer the first that is carried
pub record IsCommitted {F : Type 0} (K : Ops) (old : SlotValue F) (r : RecordValue F) (new : SlotValue F) : Type 0 where
  pub fits : Fits old.present r.foot
  pub field : new.f ≡ old.f
  pub base : new.base ≡ old.base
  pub step : Step
  pub step_is : IsStepOf r step
  pub log : new.log ≡ old.log ++ step ∷ []
  pub removal : IsRemoval K (complex_in old.present) r.foot.x r.foot.y (matrix_of r.inverse) (complex_in new.present)
  pub flags : KeepsFlags old.present r.foot.x r.foot.y new.present
  pub carried : new.carried ≡ without_first r.foot.x r.foot.y old.carried

-- the record does not fit, first at this pair; or it fits, and memory ran out
abbrev pub Refuses : StoredBlocks → Footprint → CommitFault → Type 0
Refuses v foot (Stale s t) = IsFirstDifference v foot s t
Refuses v foot NoMemory = Fits v foot

-- the block stands there and has its flag set; nothing else changes
pub record IsMarked {F : Type 0} (old : SlotValue F) (s t : ℕ) (b : Block) (new : SlotValue F) : Type 0 where
  pub stands : StandsAt old.present s t b
  pub field : new.f ≡ old.f
  pub base : new.base ≡ old.base
  pub log : new.log ≡ old.log
  pub carried : new.carried ≡ old.carried
  pub live : new.present.live ≡ old.present.live
  pub blocks : (p q : ℕ) → block_at new.present p q
      ≡ (if p == s && q == t then with_flag (block_at old.present s t) else block_at old.present p q)
