use Rattle.std.proofs.Common.{◌≡◌, ◌++◌}
use Rattle.block_grids.specs.Joined.{joined_rows}
use Rattle.block_grids.proofs.grids.push_rows.Given as goal

abbrev pub invariant-loop-k : goal.invariant-loop-k
invariant-loop-k l = l.entries ≡ l.initial.entries ++ joined_rows l.line l.left l.k
