use Rattle.std.proofs.Common.{◌≡◌, take}
use Rattle.dense_blocks.specs.Vectors.{IsVector}
use Rattle.plain_bases.specs.Parts.{part_at}
use Rattle.plain_bases.proofs.coboundary.part_at.Given as goal

abbrev pub invariant-loop-arrow : goal.invariant-loop-arrow
invariant-loop-arrow g l = record {
  part : l.sum.items ≡ part_at (g.F.Scalars.ops l.f) (take l.arrow-index l.arrows) l.source l.z l.t;
  vector : IsVector (g.F.Scalars.ops l.f) l.t.size l.sum.items;
}
