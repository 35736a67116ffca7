use Rattle.std.proofs.Common.{◌≡◌, ◌+◌, take, sum}
use Rattle.sheaf_data.proofs.stalks.are_few.Given as goal

abbrev pub invariant-loop-size : goal.invariant-loop-size
invariant-loop-size l = l.room + sum (take l.size-index l.sizes) ≡ 4096
