use Rattle.std.proofs.Common.{◌≡◌}
use Rattle.sheaf_data.specs.Arrows.{numbered_cells}
use Rattle.block_sparse.specs.StoredBlocks.{block_at}
use Rattle.coboundary.specs.Start.{with_stalks}
use Rattle.coboundary.specs.Put.{AreFirstPut}
use Rattle.coboundary.proofs.start.full.Given as goal

abbrev pub invariant-loop-place : goal.invariant-loop-place
invariant-loop-place g l = record {
  live : l.blocks.live ≡ with_stalks (numbered_cells 0 l.draft.complex.dims l.draft.stalks);
  first : AreFirstPut (g.F.Scalars.ops l.draft.field) l.draft.complex l.draft.blocks l.place (block_at l.blocks);
}
