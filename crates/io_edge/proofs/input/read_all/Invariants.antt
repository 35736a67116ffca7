use Rattle.std.proofs.Common.{◌≤◌, ◌-◌, vec_len}
use Rattle.io_edge.specs.Input.{Gave}
use Rattle.io_edge.proofs.input.read_all.Given as goal

abbrev pub invariant-reads : goal.invariant-reads
invariant-reads g l = record {
  within : vec_len l.all ≤ l.limit;
  gave : Gave (g.S.Source.left l.fn.source) (g.S.Source.left l.source) l.all.items;
  later : g.S.Source.fault_count l.fn.source ≤ g.S.Source.fault_count l.source;
}

abbrev pub decreases-reads : goal.decreases-reads
decreases-reads g l = l.limit - vec_len l.all
