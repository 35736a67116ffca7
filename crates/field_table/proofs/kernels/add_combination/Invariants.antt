use Rattle.std.proofs.Common.{◌≡◌, ◌*◌, ◌≤◌, length}
use Rattle.dense_blocks.specs.Vectors.{AllScalars}
use Rattle.field_table.specs.Modular.{modulo}
use Rattle.field_table.specs.ModularFacts.{plus_rows}
use Rattle.field_table.proofs.kernels.add_combination.Given as goal

abbrev pub invariant-loop-ks : goal.invariant-loop-ks
invariant-loop-ks g l = record {
  sum : plus_rows (modulo g.row.Q) (length l.initial.target) l.target l.ks l.rest
      ≡ plus_rows (modulo g.row.Q) (length l.initial.target) l.initial.target l.coefficients l.rows;
  width : length l.target ≡ length l.initial.target;
  full : length l.rest ≡ length l.ks * length l.initial.target;
  short : length l.rest ≤ length l.rows;
  target_scalars : AllScalars (modulo g.row.Q) l.target;
  coefficient_scalars : AllScalars (modulo g.row.Q) l.ks;
  row_scalars : AllScalars (modulo g.row.Q) l.rest;
}

abbrev pub decreases-loop-ks : goal.decreases-loop-ks
decreases-loop-ks g l = length l.ks
