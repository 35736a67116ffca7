use Rattle.std.proofs.Common.{◌≡◌, ℕ, drop}
use Rattle.block_sparse.specs.StoredBlocks.{block_at}
use Rattle.block_sparse.specs.Lists.{with_blocks}
use Rattle.block_sparse.proofs.blocks.Blocks.with_all.Given as goal

abbrev pub invariant-loop-member : goal.invariant-loop-member
invariant-loop-member l = record {
  live : l.changed.live ≡ l.self.live;
  blocks : (p q : ℕ) → with_blocks (block_at l.changed) (drop l.member-index l.list) p q
      ≡ with_blocks (block_at l.self) l.list p q;
}
