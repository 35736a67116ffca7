use Rattle.std.proofs.Common.{ap, ◌∙◌, sym}
use Rattle.dense_blocks.specs.MatrixFacts.{matrix_sum}
use Rattle.dense_blocks.specs.Blocks.{matrix_of}
use Rattle.reduce_step.proofs.FinishLaws.{change-negative}
use Rattle.reduce_step.proofs.finish.new_corners.Goals as goal

pub returns-clause-block : goal.returns-clause-block
returns-clause-block g c =
    let K = g.F.Scalars.ops c.args.f.now in
    let foot = c.args.foot.now in
    let change = change-negative K (g.met.F.Scalars.is_field c.args.f.now) foot.corners.cols c.args.inverse.now foot.row
    foot.column
    c.in_ok-moved.moved c.in_ok-negative.negative c.in_ok-change.change (foot.parts.row_cols ∙ sym foot.corner_cols)
    c.in_ok-moved.ensures.block c.in_ok-negative.ensures.block c.in_ok-change.ensures.block in
    let corners = c.in_ok-corners.ensures.block in
    record {
      rows_are = corners.rows_are;
      columns_are = corners.columns_are;
      matrix_is = corners.matrix_is ∙ ap (matrix_sum K (matrix_of foot.corners)) change.matrix_is;
    }
