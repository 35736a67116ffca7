use Rattle.std.proofs.Common.{ℕ, ◌<◌, get_or}
use Rattle.square_check.specs.Searches.{Fails, PassesBefore, IsFirstMiddle}
use Rattle.square_check.specs.Squares.{Commutes}
use Rattle.square_check.proofs.pairs.bad_first.Given as goal

abbrev pub invariant-loop-u : goal.invariant-loop-u
invariant-loop-u g l = record {
  fails : Fails (Commutes (g.F.Scalars.ops l.f) l.c l.blocks) l.least;
  clears : (k : ℕ) → k < l.u-index → IsFirstMiddle l.c l.s l.t (get_or l.u-items k 0)
      → PassesBefore (Commutes (g.F.Scalars.ops l.f) l.c l.blocks) l.least l.s
      (get_or l.u-items k 0);
}
