-- The reduction that a slot holds.
use Rattle.std.specs.Prelude.{◌≡◌, ℕ}
use Rattle.block_complexes.specs.BlockComplexes.{HaveSameMatrices}
use Rattle.block_sparse.specs.StoredBlocks.{complex_in}
use Rattle.reduce_step.specs.Logs.{pairs_of}
use Rattle.pair_commit.specs.Slots.{SlotValue}
use Rattle.core_machine.specs.Replies.{Reduction}

-- r has so many degrees, the pairs of the slot's log, and the block complex that they leave
pub record IsReductionIn {F : Type 0} (degrees : ℕ) (slot : SlotValue F) (r : Reduction) : Type 0 where
  pub degrees_are : r.degrees ≡ degrees
  pub pairs : r.pairs ≡ pairs_of slot.log
  pub rest : HaveSameMatrices (complex_in slot.present) r.rest
