use Rattle.dense_blocks.proofs.AddingRows.{AddsUp}
use Rattle.dense_blocks.proofs.scalars.Scalars.add_combination.Given as goal

abbrev pub invariant-loop-k : goal.invariant-loop-k
invariant-loop-k g l = AddsUp (g.Self.Scalars.ops l.self) l.columns l.initial.target l.coefficients l.rows l.k-index
    l.target l.rest
