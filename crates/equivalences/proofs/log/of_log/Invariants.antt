use Rattle.block_sparse.specs.StoredBlocks.{complex_in}
use Rattle.equivalences.specs.Stored.{AreStored, maps_of}
use Rattle.equivalences.proofs.LogLaws.{AreMapsAt}
use Rattle.equivalences.proofs.log.of_log.Given as goal

abbrev pub invariant-loop-step : goal.invariant-loop-step
invariant-loop-step g l = record {
  stored : AreStored l.maps;
  maps : AreMapsAt (g.F.Scalars.ops l.f) (complex_in l.base) l.log l.step-index (maps_of l.maps);
}
