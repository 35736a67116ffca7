use Rattle.dense_blocks.proofs.EliminationSteps.{Pulling}
use Rattle.dense_blocks.proofs.solution.Elimination.functional.Given as goal

abbrev pub invariant-loop-i : goal.invariant-loop-i
invariant-loop-i g l = Pulling (g.F.Scalars.ops l.f) l.self.size l.self.pivots.items l.place l.k l.i l.functional.items
