use Rattle.std.proofs.Common.{arith, refl}
use Rattle.dense_blocks.specs.MatrixFacts.{identity}
use Rattle.dense_blocks.proofs.Cutting.{sized-identity, first_rows-size, cut-first_rows}
use Rattle.dense_blocks.proofs.block.Block.identity.Goals as goal

pub invariant_of-result-clause-full : goal.invariant_of-result-clause-full
invariant_of-result-clause-full c =
    first_rows-size c.args.n c.args.n c.loop-i.i (identity c.args.n) c.loop-i.entries (sized-identity c.args.n)
    (omega arith) c.loop-i.invariant

pub returns : goal.returns
returns c = record {
  rows_are = refl;
  columns_are = refl;
  matrix_is = cut-first_rows c.args.n c.args.n c.loop-i.i (identity c.args.n) c.loop-i.entries (sized-identity c.args.n)
      (omega arith) c.loop-i.invariant;
}
