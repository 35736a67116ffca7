-- What the loop keeps: how far a reduction has come.
use Rattle.std.specs.Prelude.{◌≡◌, ◌<◌, ◌+◌, ◌*◌, ◌++◌, ℕ, List, length, sum_by, if◌then◌else◌}
use Rattle.dense_blocks.specs.Field.{Ops}
use Rattle.block_complexes.specs.BlockComplexes.{BlockComplex, cells}
use Rattle.block_sparse.specs.StoredBlocks.{StoredBlocks, complex_in}
use Rattle.block_sparse.specs.Candidates.{is_candidate}
use Rattle.pair_find.specs.Pairs.{IsFirstFrom}
use Rattle.reduce_step.specs.declared.footprint.Footprint.{Footprint}
use Rattle.reduce_step.specs.declared.record.Step.{Step}
use Rattle.reduce_step.specs.Footprints.{IsFootprint}
use Rattle.reduce_step.specs.Logs.{pairs_of}
use Rattle.pair_commit.specs.Slots.{SlotValue, IsTried}
use Rattle.first_reduction.specs.FirstPairs.{IsFirstReduction}

-- the footprint of the first pair to be tried
abbrev pub IsFirstFootprint : StoredBlocks → Footprint → Type 0
IsFirstFootprint v foot = IsFirstFrom v (0, 0) (foot.x, foot.y) × IsFootprint v foot.x foot.y foot

-- these pairs, and then what reduces w, reduce v
abbrev pub IsBeginning : Ops → BlockComplex → List (ℕ × ℕ) → BlockComplex → Type 0
IsBeginning K v pairs w = (rest : List (ℕ × ℕ)) (u : BlockComplex) → IsFirstReduction K w rest u
    → IsFirstReduction K v (pairs ++ rest) u

-- how many square blocks without a flag stand
abbrev pub candidate_count : StoredBlocks → ℕ
candidate_count v =
    sum_by (λ s. sum_by (λ t. if is_candidate v s t then 1 else 0) (cells v.live)) (cells v.live)

-- it falls with each pair that is removed, and with each flag that is set
abbrev pub work_left : StoredBlocks → ℕ
work_left v = let n = length v.live in n * n * n + candidate_count v

-- these steps more, as far as they go
pub record IsOnTheWay (K : Ops) {F : Type 0} (old new : SlotValue F) : Type 0 where
  pub steps : List Step
  pub log : new.log ≡ old.log ++ steps
  pub beginning : IsBeginning K (complex_in old.present) (pairs_of steps) (complex_in new.present)

-- and less is left to do
abbrev pub IsAdvance : Ops → {F : Type 0} → (old new : SlotValue F) → Type 0
IsAdvance K old new = IsOnTheWay K old new × (work_left new.present < work_left old.present)

-- the present has been reduced by these steps, and each square block that is left was tried
pub record IsReduced (K : Ops) {F : Type 0} (old new : SlotValue F) : Type 0 where
  pub steps : List Step
  pub log : new.log ≡ old.log ++ steps
  pub reduction : IsFirstReduction K (complex_in old.present) (pairs_of steps) (complex_in new.present)
  pub tried : IsTried new.present
