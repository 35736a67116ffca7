use Rattle.std.proofs.Common.{ℕ, ◌+◌, ◌<◌, length, get_or, List, nat_eq, Option, All, below_more, sym, ap, ◌∙◌, subst}
use Rattle.std.proofs.Common.{arith}
use Rattle.std.specs.List.{list_any}
use Rattle.cell_complex.proofs.Callers.{cofaces_of-below, list_any-cofaces_of}
use Rattle.square_check.specs.Searches.{Fails, PassesBefore}
use Rattle.square_check.specs.Squares.{Commutes}
use Rattle.square_check.proofs.Clearing.{earlier-fails, earlier-clears_first, earlier-clears_second}
use Rattle.cell_complex.proofs.Places.{all-listed}
use Rattle.square_check.proofs.pairs.bad_above.Goals as goal

pub bad_pair-requires-clause-u_is_cell : goal.bad_pair-requires-clause-u_is_cell
bad_pair-requires-clause-u_is_cell g c =
    subst (λ us. All (λ u. u < length c.args.c.now.dims) us) (sym c.cofaces_of-u-items.ensures.cells)
    (cofaces_of-below c.args.c.now c.args.t) c.loop-u.u-index 0 (omega arith)

pub loop-u-preserved : goal.loop-u-preserved
loop-u-preserved g c =
    let P : ℕ → ℕ → Type 0 = Commutes (g.F.Scalars.ops c.args.f.now) c.args.c.now c.args.blocks.now in
    let s : ℕ = c.args.s in
    let us : List ℕ = c.cofaces_of-u-items.result.now in
    let old : Option (ℕ × ℕ) = c.loop-u.least in
    let bad : Option (ℕ × ℕ) = c.bad_pair.result in
    record {
      fails = subst (Fails P) (sym c.earlier-least.ensures)
          (earlier-fails P old bad c.loop-u.invariant.fails c.bad_pair.ensures.fails);
      clears = subst (λ r. (k : ℕ) → k < c.loop-u.u-index + 1 → PassesBefore P r s (get_or us k 0))
          (sym c.earlier-least.ensures)
          (below_more (λ k. PassesBefore P _ s (get_or us k 0)) c.loop-u.u-index
          (λ k l. earlier-clears_first P old bad s (get_or us k 0) (c.loop-u.invariant.clears k l))
          (earlier-clears_second P old bad s (get_or us c.loop-u.u-index 0) c.bad_pair.ensures.clears));
    }

pub returns-clause-clears : goal.returns-clause-clears
returns-clause-clears g c =
    let P : ℕ → ℕ → Type 0 = Commutes (g.F.Scalars.ops c.args.f.now) c.args.c.now c.args.blocks.now in
    λ u e. all-listed (λ u. PassesBefore P c.loop-u.least c.args.s u) c.cofaces_of-u-items.result.now c.loop-u.u-index
    (omega arith) c.loop-u.invariant.clears u
    (ap (list_any (nat_eq u)) c.cofaces_of-u-items.ensures.cells ∙ list_any-cofaces_of c.args.c.now c.requires.complex
    c.args.t u ∙ e)
