use Rattle.std.proofs.Common.{◌≡◌, ◌≤◌, ◌+◌, length}
use Rattle.sheaf_text.specs.Readings.{nothing_known, run}
use Rattle.sheaf_text.specs.Forms.{contents}
use Rattle.sheaf_text.specs.State.{known_by, IsSoundState}
use Rattle.sheaf_text.proofs.reader.read_lines.Given as goal

abbrev pub invariant-loop-rest : goal.invariant-loop-rest
invariant-loop-rest l = record {
  sound : IsSoundState l.state;
  same : run (known_by l.state) l.line (contents l.rest) ≡ run nothing_known 0 (contents l.bytes);
  within : l.line + length l.rest ≤ length l.bytes;
}

abbrev pub decreases-loop-rest : goal.decreases-loop-rest
decreases-loop-rest l = length l.rest
