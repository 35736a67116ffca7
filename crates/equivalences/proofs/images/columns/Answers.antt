use Rattle.std.proofs.Common.{refl, arith}
use Rattle.dense_blocks.specs.Blocks.{matrix_of}
use Rattle.equivalences.proofs.ImageLaws.{columns-all, columns-more}
use Rattle.equivalences.proofs.images.columns.Goals as goal

pub loop-j-preserved : goal.loop-j-preserved
loop-j-preserved c =
    columns-more c.args.block.now.cols c.args.degree c.loop-j.j (matrix_of c.args.block.now) c.loop-j.cochains.items
    c.push.new.self.items (record { degree = c.args.degree; values = c.in_ok-values.values }) c.loop-j-test.true
    c.loop-j.invariant refl c.in_ok-values.ensures c.in_ok-push.ensures.items

pub returns : goal.returns
returns c =
    columns-all c.args.block.now.cols c.args.degree c.loop-j.j (matrix_of c.args.block.now) c.loop-j.cochains.items
    (omega arith) c.loop-j.invariant
