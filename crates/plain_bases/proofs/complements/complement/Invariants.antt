use Rattle.std.proofs.Common.{◌≡◌, ◌≤◌, ◌+◌, take, drop, length}
use Rattle.dense_blocks.specs.Solutions.{lists}
use Rattle.plain_bases.specs.Complements.{Completes}
use Rattle.plain_bases.proofs.complements.complement.Given as goal

abbrev pub invariant-loop-candidate : goal.invariant-loop-candidate
invariant-loop-candidate g l = record {
  size : l.taken.size ≡ l.fn.others.size;
  kept : take l.count (lists l.taken.all.items) ≡ lists l.fn.others.all.items;
  completes : Completes (g.F.Scalars.ops l.f) l.fn.others.size (lists l.fn.others.all.items)
      (lists l.candidates.all.items) l.candidate-index
      (drop l.count (lists l.taken.all.items));
  few : length l.taken.all.items ≤ l.count + l.candidate-index;
}
