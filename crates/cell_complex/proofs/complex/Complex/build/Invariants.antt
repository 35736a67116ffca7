use Rattle.std.proofs.Common.{◌≡◌}
use Rattle.cell_complex.specs.Invariants.{IsComplex}
use Rattle.cell_complex.specs.Builds.{with_first_faces}
use Rattle.cell_complex.proofs.complex.Complex.build.Given as goal

abbrev pub invariant-loop-face : goal.invariant-loop-face
invariant-loop-face l = record {
  is : l.complex ≡ with_first_faces l.dims l.faces l.face-index;
  complex : IsComplex l.complex;
}
