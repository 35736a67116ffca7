use Rattle.std.proofs.Common.{◌≡◌, ℕ, ◌<◌, [], length}
use Rattle.incidence_check.specs.Marks.{AreMarks}
use Rattle.incidence_check.specs.Passes.{PassesBelow}
use Rattle.incidence_check.proofs.pairs.all_pass.Given as goal

abbrev pub invariant-loop-u : goal.invariant-loop-u
invariant-loop-u l = record {
  count : length l.marks ≡ 4096;
  marks : AreMarks l.c l.u [] l.marks;
  passes : (k : ℕ) → k < l.u → PassesBelow l.c k;
}
