use Rattle.std.proofs.Common.{◌≡◌, ◌++◌, ◌*◌}
use Rattle.dense_blocks.specs.Vectors.{zeros}
use Rattle.dense_blocks.proofs.entries.Entries.push_zeros.Given as goal

abbrev pub invariant-loop-added : goal.invariant-loop-added
invariant-loop-added l = l.self ≡ l.initial.self ++ zeros (l._added * 16)
