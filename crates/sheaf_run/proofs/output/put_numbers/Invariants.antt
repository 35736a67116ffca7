use Rattle.std.proofs.Common.{◌≤◌, take}
use Rattle.io_edge.specs.Bytes.{Took}
use Rattle.sheaf_run.specs.Parts.{spaced_numbers}
use Rattle.sheaf_run.proofs.output.put_numbers.Given as goal

abbrev pub invariant-loop-number : goal.invariant-loop-number
invariant-loop-number g l = record {
  took : Took (g.K.Sink.taken l.fn.sink) (g.K.Sink.taken l.sink) (spaced_numbers (take l.number-index l.numbers));
  later : g.K.Sink.fault_count l.fn.sink ≤ g.K.Sink.fault_count l.sink;
}
