use Rattle.std.proofs.Common.{◌≡◌, arith}
use Rattle.query_answers.proofs.DegreeLists.{degree-all, degree-next, degree-shapes, degree-matrices}
use Rattle.query_answers.proofs.degrees.coboundary_matrices.Goals as goal

pub loop-k-preserved : goal.loop-k-preserved
loop-k-preserved c =
    degree-next c.args.b.now c.loop-k.k c.loop-k.matrices.items _ c.in_ok-matrix.matrix c.loop-k.invariant
    c.in_ok-push.ensures.items c.in_ok-matrix.ensures

pub returns-clause-shapes : goal.returns-clause-shapes
returns-clause-shapes c =
    let end : c.loop-k.k ≡ c.args.degrees = omega arith in
    degree-shapes c.args.b.now c.args.degrees c.of.result
    (degree-all c.args.b.now c.loop-k.k c.args.degrees c.loop-k.matrices.items c.of.result c.loop-k.invariant end
    c.of.ensures)

pub returns-clause-matrices : goal.returns-clause-matrices
returns-clause-matrices c = λ K F over.
    let end : c.loop-k.k ≡ c.args.degrees = omega arith in
    degree-matrices c.args.b.now K F c.live-cells.ensures.sound over c.args.degrees c.of.result
    (degree-all c.args.b.now c.loop-k.k c.args.degrees c.loop-k.matrices.items c.of.result c.loop-k.invariant end
    c.of.ensures)
    c.requires
