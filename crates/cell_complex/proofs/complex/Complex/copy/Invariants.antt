use Rattle.std.proofs.Common.{◌≡◌}
use Rattle.cell_complex.specs.Builds.{with_first_faces}
use Rattle.cell_complex.proofs.complex.Complex.copy.Given as goal

abbrev pub invariant-loop-place : goal.invariant-loop-place
invariant-loop-place l = l.copy ≡ with_first_faces l.self.dims l.self.faces l.place
