use Rattle.std.proofs.Common.{◌≡◌, ◌++◌}
use Rattle.dense_blocks.specs.Vectors.{zeros}
use Rattle.dense_blocks.proofs.inversion.push_zeros.Given as goal

abbrev pub invariant-loop-added : goal.invariant-loop-added
invariant-loop-added l = l.v.items ≡ l.initial.v.items ++ zeros l._added
