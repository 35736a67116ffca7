use Rattle.sheaf_bench.specs.Merges.{MayJoin}
use Rattle.sheaf_bench.proofs.merges.merge.Given as goal

abbrev pub invariant-loop-round : goal.invariant-loop-round
invariant-loop-round l = MayJoin l.blocks.live l.foot.left l.foot.below
