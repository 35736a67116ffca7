use Rattle.std.proofs.Common.{◌≤◌, length}
use Rattle.dense_blocks.specs.Solutions.{lists}
use Rattle.plain_bases.specs.Relations.{SpansRelationsBelow}
use Rattle.plain_bases.proofs.relations.relations.Given as goal

abbrev pub invariant-loop-j : goal.invariant-loop-j
invariant-loop-j g l = record {
  spans : SpansRelationsBelow (g.F.Scalars.ops l.f) l.vectors.size (lists l.vectors.all.items) l.j
      (lists l.found.items);
  few : length l.found.items ≤ l.j;
}
