use Rattle.std.proofs.Common.{◌*◌, ◌∙◌}
use Rattle.dense_blocks.specs.Matrices.{cut}
use Rattle.dense_blocks.proofs.ClearingLaws.{cleared-none, cleared-scalars}
use Rattle.dense_blocks.proofs.row_operations.eliminate.Goals as goal

pub loop-column-init : goal.loop-column-init
loop-column-init g c = cleared-none (g.F.Scalars.ops c.args.f.now) c.args.size c.args.rows.now c.requires.full
    c.requires.scalars

pub clear_column-requires-clause-scalars : goal.clear_column-requires-clause-scalars
clear_column-requires-clause-scalars g c =
    cleared-scalars (g.F.Scalars.ops c.args.f.now) c.args.size c.loop-column.column
    (cut c.args.size (2 * c.args.size) c.args.rows.now) c.loop-column.rows
    (c.loop-column.auto.rows ∙ c.requires.full) c.loop-column.invariant
