use Rattle.std.proofs.Common.{◌≡◌, ◌+◌, ◌*◌, ◌≤◌, drop}
use Rattle.field_table.specs.ModularFacts.{whole_dot}
use Rattle.field_table.proofs.kernels.sum_of_products.Given as goal

abbrev pub invariant-loop-i : goal.invariant-loop-i
invariant-loop-i l = record {
  small : l.total ≤ l.i * 65025;
  rest : l.total + whole_dot (drop l.i l.u) (drop l.i l.v) ≡ whole_dot l.u l.v;
}
