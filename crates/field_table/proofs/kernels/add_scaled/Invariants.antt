use Rattle.std.proofs.Common.{◌≡◌}
use Rattle.dense_blocks.specs.Vectors.{plus, multiple}
use Rattle.dense_blocks.proofs.RowSteps.{changed}
use Rattle.field_table.specs.Modular.{modulo}
use Rattle.field_table.proofs.kernels.add_scaled.Given as goal

abbrev pub invariant-loop-i : goal.invariant-loop-i
invariant-loop-i g l =
    l.target ≡ changed l.i (plus (modulo g.row.Q) l.initial.target (multiple (modulo g.row.Q) l.k l.row))
    l.initial.target
