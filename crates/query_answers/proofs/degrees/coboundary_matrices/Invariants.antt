use Rattle.query_answers.proofs.DegreeLists.{AreDegreeBlocks}
use Rattle.query_answers.proofs.degrees.coboundary_matrices.Given as goal

abbrev pub invariant-loop-k : goal.invariant-loop-k
invariant-loop-k l = AreDegreeBlocks l.b l.k l.matrices.items
