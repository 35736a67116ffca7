use Rattle.std.proofs.Common.{◌≡◌, take}
use Rattle.dense_blocks.specs.Vectors.{IsVector}
use Rattle.cochain_vec.specs.Complexes.{total_size}
use Rattle.plain_bases.specs.Parts.{image}
use Rattle.plain_bases.proofs.coboundary.coboundary.Given as goal

abbrev pub invariant-loop-t : goal.invariant-loop-t
invariant-loop-t g l = record {
  image : l.all.items ≡ image (g.F.Scalars.ops l.f) l.arrows l.source (take l.t-index l.target) l.z;
  vector : IsVector (g.F.Scalars.ops l.f) (total_size (take l.t-index l.target)) l.all.items;
}
