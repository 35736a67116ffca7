use Rattle.std.proofs.Common.{ℕ, ◌<◌, get_or}
use Rattle.square_check.specs.Searches.{Fails, PassesBefore}
use Rattle.square_check.specs.Squares.{Commutes}
use Rattle.square_check.proofs.pairs.bad_below.Given as goal

abbrev pub invariant-loop-s : goal.invariant-loop-s
invariant-loop-s g l = record {
  fails : Fails (Commutes (g.F.Scalars.ops l.f) l.c l.blocks) l.least;
  clears : (k : ℕ) → k < l.s-index → PassesBefore (Commutes (g.F.Scalars.ops l.f) l.c l.blocks) l.least
      (get_or l.s-items k 0) l.u;
}
