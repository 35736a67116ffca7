use Rattle.std.proofs.Common.{take, ap, ◌∙◌}
use Rattle.dense_blocks.specs.Vectors.{zeros}
use Rattle.dense_blocks.proofs.VectorLaws.{take-zeros}
use Rattle.dense_blocks.proofs.RowSteps.{zeros-replicate}
use Rattle.square_check.proofs.squares.same_within.Goals as goal

pub combine-requires-clause-zeros : goal.combine-requires-clause-zeros
combine-requires-clause-zeros g c =
    ap (take c.args.low1.now.cols) (zeros-replicate g.row.N) ∙ take-zeros c.args.low1.now.cols g.row.N c.requires.room

pub combine-requires-2-clause-zeros : goal.combine-requires-2-clause-zeros
combine-requires-2-clause-zeros g c =
    ap (take c.args.low1.now.cols) (zeros-replicate g.row.N)
    ∙ take-zeros c.args.low1.now.cols g.row.N c.requires.room
    ∙ ap zeros c.requires.cols
