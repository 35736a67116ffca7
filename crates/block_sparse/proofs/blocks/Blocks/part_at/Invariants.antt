use Rattle.std.proofs.Common.{◌≡◌, take}
use Rattle.dense_blocks.specs.Vectors.{IsVector}
use Rattle.dense_blocks.specs.Matrices.{image_of}
use Rattle.cochain_vec.specs.Complexes.{cells_of, value_at}
use Rattle.cochain_vec.proofs.PathLaws.{sum_over}
use Rattle.block_complexes.specs.BlockComplexes.{size_of}
use Rattle.block_sparse.specs.StoredBlocks.{matrix, complex_in}
use Rattle.block_complexes.specs.Cochains.{complex_of}
use Rattle.block_sparse.proofs.blocks.Blocks.part_at.Given as goal

abbrev pub invariant-loop-s : goal.invariant-loop-s
invariant-loop-s g l = record {
  sum : l.sum.items ≡ sum_over (g.F.Scalars.ops l.f) (size_of l.self.live l.t)
      (λ s. image_of (g.F.Scalars.ops l.f) (matrix l.self s l.t)
      (value_at (cells_of (complex_of (complex_in l.self)) l.starts.degree) l.z s)) (take l.s-index l.s-items);
  vector : IsVector (g.F.Scalars.ops l.f) (size_of l.self.live l.t) l.sum.items;
}
