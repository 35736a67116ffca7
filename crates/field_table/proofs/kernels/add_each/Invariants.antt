use Rattle.std.proofs.Common.{◌≡◌, ◌-◌, ◌*◌, length, drop}
use Rattle.dense_blocks.specs.Vectors.{AllScalars}
use Rattle.field_table.specs.Modular.{modulo}
use Rattle.field_table.specs.ModularFacts.{plus_rows}
use Rattle.field_table.proofs.kernels.add_each.Given as goal

abbrev pub invariant-loop-k : goal.invariant-loop-k
invariant-loop-k g l = record {
  sum : plus_rows (modulo g.row.Q) l.columns l.target (drop l.k-index l.coefficients) l.rest
      ≡ plus_rows (modulo g.row.Q) l.columns l.initial.target l.coefficients l.rows;
  width : length l.target ≡ l.columns;
  left : length l.rest ≡ (length l.coefficients - l.k-index) * l.columns;
  scalars : AllScalars (modulo g.row.Q) l.target;
}
