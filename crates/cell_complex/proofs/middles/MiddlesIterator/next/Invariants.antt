use Rattle.std.proofs.Common.{◌≡◌, ◌+◌, length}
use Rattle.std.specs.List.Sorted.{IsStrictlyIncreasing}
use Rattle.cell_complex.specs.Common.{common}
use Rattle.cell_complex.proofs.middles.MiddlesIterator.next.Given as goal

abbrev pub invariant-merge : goal.invariant-merge
invariant-merge l = record {
  same : common l.self-inside.cofaces.now l.self-inside.faces.now ≡ l.fn.self;
  cofaces_rise : IsStrictlyIncreasing l.self-inside.cofaces.now;
  faces_rise : IsStrictlyIncreasing l.self-inside.faces.now;
}

abbrev pub decreases-merge : goal.decreases-merge
decreases-merge l = length l.self-inside.cofaces.now + length l.self-inside.faces.now
