use Rattle.std.proofs.Common.{◌≡◌, length, take}
use Rattle.cell_complex.specs.Complexes.{faces_of}
use Rattle.incidence_check.specs.Marks.{AreMarks}
use Rattle.incidence_check.proofs.pairs.mark_all.Given as goal

abbrev pub invariant-loop-at : goal.invariant-loop-at
invariant-loop-at l = record {
  count : length l.marks ≡ 4096;
  marks : AreMarks l.c l.u (take l.at (faces_of l.c l.u)) l.marks;
}
