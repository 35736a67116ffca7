use Rattle.dense_blocks.proofs.EliminationSteps.{Reducing}
use Rattle.dense_blocks.proofs.solution.Elimination.reduce.Given as goal

abbrev pub invariant-loop-pivot : goal.invariant-loop-pivot
invariant-loop-pivot g l = Reducing (g.F.Scalars.ops l.f) l.self.size l.self.pivots.items l.fn.vector l.pivot-index
    l.row.items l.parts.items
