use Rattle.std.proofs.Common.{◌≡◌, ℕ, ◌<◌, slice_get, Some}
use Rattle.cell_complex.specs.declared.face.Face.{Face}
use Rattle.square_check.specs.Searches.{Fails}
use Rattle.square_check.specs.Squares.{Commutes}
use Rattle.square_check.proofs.Visited.{ClearsFirst}
use Rattle.square_check.proofs.touched.first_of_all.Given as goal

abbrev pub invariant-loop-place : goal.invariant-loop-place
invariant-loop-place g l = record {
  fails : Fails (Commutes (g.F.Scalars.ops l.f) l.c l.blocks) l.least;
  clears : (k : ℕ) (f : Face) → k < l.place → slice_get l.c.faces k ≡ Some f
      → ClearsFirst (g.F.Scalars.ops l.f) l.c l.blocks l.least f;
}
