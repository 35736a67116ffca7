use Rattle.std.proofs.Common.{◌≡◌, length}
use Rattle.block_complexes.specs.Cochains.{complex_of}
use Rattle.block_sparse.specs.StoredBlocks.{complex_in}
use Rattle.equivalence_laws.specs.Bases.{unit_images}
use Rattle.equivalence_laws.specs.Equivalences.{graded_matrix}
use Rattle.cocycle_bases.specs.Bases.{AreBases, AreGradedCochains}
use Rattle.cocycle_bases.proofs.basis.bases.Given as goal

abbrev pub invariant-loop-k : goal.invariant-loop-k
invariant-loop-k g l = record {
  count : length l.bases.items ≡ l.k;
  images : AreGradedCochains (unit_images (g.F.Scalars.ops l.f) (complex_of (complex_in l.rest))
      (graded_matrix l.eq.iota)) l.bases.items;
  bases : AreBases (g.F.Scalars.ops l.f) (complex_of (complex_in l.base)) l.bases.items;
}
