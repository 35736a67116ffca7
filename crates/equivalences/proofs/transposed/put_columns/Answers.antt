use Rattle.std.proofs.Common.{get_or, ap, ◌∙◌, arith}
use Rattle.dense_blocks.specs.Blocks.{matrix_of}
use Rattle.equivalences.proofs.ColumnLaws.{columns_put-start, columns_put-next, columns_put-end}
use Rattle.equivalences.proofs.transposed.put_columns.Goals as goal

pub loop-i-init : goal.loop-i-init
loop-i-init c = columns_put-start c.args.a.now.rows (matrix_of c.args.a.now) c.args.into.now c.requires.zeros

pub put_column-requires-clause-zeros : goal.put_column-requires-clause-zeros
put_column-requires-clause-zeros c = λ j. c.loop-i.invariant.rest j c.loop-i.i (omega arith) c.loop-i-test.true

pub loop-i-preserved : goal.loop-i-preserved
loop-i-preserved c =
    columns_put-next c.args.a.now.rows (matrix_of c.args.a.now) c.loop-i.i c.loop-i.into c.put_column.new.into
    c.loop-i-test.true c.loop-i.invariant
    (λ j. c.put_column.ensures.column j ∙ ap (λ row. get_or row j 0) c.row.ensures.row) c.put_column.ensures.others

pub returns-clause-matrix : goal.returns-clause-matrix
returns-clause-matrix c =
    let a = c.args.a.now in
    columns_put-end a.rows a.cols a.entries c.loop-i.into c.loop-i.i (omega arith) (omega arith) c.loop-i.invariant
