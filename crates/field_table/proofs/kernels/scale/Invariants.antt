use Rattle.std.proofs.Common.{◌≡◌}
use Rattle.dense_blocks.specs.Vectors.{multiple}
use Rattle.dense_blocks.proofs.RowSteps.{changed}
use Rattle.field_table.specs.Modular.{modulo}
use Rattle.field_table.proofs.kernels.scale.Given as goal

abbrev pub invariant-loop-entry : goal.invariant-loop-entry
invariant-loop-entry g l =
    l.target ≡ changed l.entry-index (multiple (modulo g.row.Q) l.k l.initial.target) l.initial.target
