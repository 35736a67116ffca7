use Rattle.std.proofs.Common.{◌*◌, sym, ◌∙◌, arith}
use Rattle.dense_blocks.specs.MatrixFacts.{identity}
use Rattle.dense_blocks.specs.Blocks.{matrix_of}
use Rattle.dense_blocks.specs.Columns.{beside}
use Rattle.dense_blocks.proofs.Cutting.{first_rows-none, first_rows-size, cut-first_rows}
use Rattle.dense_blocks.proofs.InvertingSteps.{sized-joined, joined-next}
use Rattle.dense_blocks.proofs.inversion.beside_identity.Goals as goal

pub loop-i-init : goal.loop-i-init
loop-i-init c = c.in_ok-entries.ensures
    ∙ sym (first_rows-none (beside (matrix_of c.args.a.now) (identity c.args.a.now.rows)))

pub loop-i-preserved : goal.loop-i-preserved
loop-i-preserved c =
    joined-next c.args.a.now c.loop-i.i c.loop-i.entries c.row.result.now c.push_all.new.self c.push_zeros.new.self
    c.push.new.self c.push_zeros-in-loop-i.new.self
    c.loop-i-test.true c.requires.square c.loop-i.invariant c.row.ensures.row c.in_ok-push_all.ensures.ok
    c.in_ok-push_zeros.ensures c.in_ok-push.ensures.ok c.in_ok-push_zeros-2.ensures

pub returns-clause-full : goal.returns-clause-full
returns-clause-full c =
    let a = c.args.a.now in
    first_rows-size a.rows (2 * a.rows) c.loop-i.i (beside (matrix_of a) (identity a.rows)) c.loop-i.entries
    (sized-joined a c.requires.square) (omega arith) c.loop-i.invariant

pub returns-clause-matrix : goal.returns-clause-matrix
returns-clause-matrix c =
    let a = c.args.a.now in
    cut-first_rows a.rows (2 * a.rows) c.loop-i.i (beside (matrix_of a) (identity a.rows)) c.loop-i.entries
    (sized-joined a c.requires.square) (omega arith) c.loop-i.invariant
