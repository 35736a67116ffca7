use Rattle.std.proofs.Common.{vec_len}
use Rattle.dense_blocks.specs.Vectors.{combination}
use Rattle.dense_blocks.specs.Elimination.{rows}
use Rattle.dense_blocks.specs.Solutions.{lists}
use Rattle.dense_blocks.proofs.EliminationSteps.{Rebuilding}
use Rattle.dense_blocks.proofs.solution.Elimination.combination.Given as goal

abbrev pub invariant-loop-last : goal.invariant-loop-last
invariant-loop-last g l =
    Rebuilding (g.F.Scalars.ops l.f) l.self.size (lists l.columns) l.self.pivots.items
    (combination (g.F.Scalars.ops l.f) l.self.size l.fn.parts.items (rows l.self.pivots.items))
    l.coefficients.items l.parts.items

abbrev pub decreases-loop-last : goal.decreases-loop-last
decreases-loop-last g l = vec_len l.parts
