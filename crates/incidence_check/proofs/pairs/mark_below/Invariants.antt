use Rattle.std.proofs.Common.{◌≡◌, ◌+◌, length, take}
use Rattle.cell_complex.specs.Complexes.{faces_of}
use Rattle.incidence_check.proofs.Passing.{MarksDone, MarksLeft}
use Rattle.incidence_check.proofs.pairs.mark_below.Given as goal

abbrev pub invariant-loop-s : goal.invariant-loop-s
invariant-loop-s l = record {
  count : length l.marks ≡ 4096;
  done : MarksDone l.c l.u (take (l.at + 1) (faces_of l.c l.u)) l.s-items l.s-index l.marks;
  left : MarksLeft l.c l.u (take l.at (faces_of l.c l.u)) l.s-items l.s-index l.marks;
}
