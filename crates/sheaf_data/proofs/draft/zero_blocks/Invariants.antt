use Rattle.std.proofs.Common.{take}
use Rattle.sheaf_data.specs.Drafts.{AreZeroBlocks}
use Rattle.sheaf_data.proofs.draft.zero_blocks.Given as goal

abbrev pub invariant-loop-place : goal.invariant-loop-place
invariant-loop-place l = AreZeroBlocks (take l.place l.c.faces) l.stalks l.blocks.items
