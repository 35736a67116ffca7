use Rattle.std.proofs.Common.{◌≡◌}
use Rattle.dense_blocks.proofs.RowSteps.{changed}
use Rattle.field_table.specs.Modular.{modulo}
use Rattle.field_table.specs.ModularFacts.{plus_rows}
use Rattle.field_table.proofs.kernels.add_four.Given as goal

abbrev pub invariant-loop-i : goal.invariant-loop-i
invariant-loop-i g l = l.target
    ≡ changed l.i (plus_rows (modulo g.row.Q) l.columns l.initial.target l.fn.coefficients l.rows) l.initial.target
