use Rattle.std.proofs.Common.{ℕ, ◌+◌, ◌<◌, length, get_or, List, nat_eq, Option, All, below_more, sym, ap, ◌∙◌, subst}
use Rattle.std.proofs.Common.{arith}
use Rattle.std.specs.List.{list_any}
use Rattle.cell_complex.proofs.Places.{all-listed}
use Rattle.incidence_check.proofs.Faces.{faces_of-below, list_any-faces_of}
use Rattle.square_check.specs.Searches.{Fails, PassesBefore}
use Rattle.square_check.specs.Squares.{Commutes}
use Rattle.square_check.proofs.Clearing.{earlier-fails, earlier-clears_first, earlier-clears_second}
use Rattle.square_check.proofs.pairs.bad_below.Goals as goal

pub bad_pair-requires-clause-s_is_cell : goal.bad_pair-requires-clause-s_is_cell
bad_pair-requires-clause-s_is_cell g c =
    subst (λ ss. All (λ s. s < length c.args.c.now.dims) ss) (sym c.faces_of-s-items.ensures.cells)
    (faces_of-below c.args.c.now c.args.t) c.loop-s.s-index 0 (omega arith)

pub loop-s-preserved : goal.loop-s-preserved
loop-s-preserved g c =
    let P : ℕ → ℕ → Type 0 = Commutes (g.F.Scalars.ops c.args.f.now) c.args.c.now c.args.blocks.now in
    let u : ℕ = c.args.u in
    let ss : List ℕ = c.faces_of-s-items.result.now in
    let old : Option (ℕ × ℕ) = c.loop-s.least in
    let bad : Option (ℕ × ℕ) = c.bad_pair.result in
    record {
      fails = subst (Fails P) (sym c.earlier-least.ensures)
          (earlier-fails P old bad c.loop-s.invariant.fails c.bad_pair.ensures.fails);
      clears = subst (λ r. (k : ℕ) → k < c.loop-s.s-index + 1 → PassesBefore P r (get_or ss k 0) u)
          (sym c.earlier-least.ensures)
          (below_more (λ k. PassesBefore P _ (get_or ss k 0) u) c.loop-s.s-index
          (λ k l. earlier-clears_first P old bad (get_or ss k 0) u (c.loop-s.invariant.clears k l))
          (earlier-clears_second P old bad (get_or ss c.loop-s.s-index 0) u c.bad_pair.ensures.clears));
    }

pub returns-clause-clears : goal.returns-clause-clears
returns-clause-clears g c =
    let P : ℕ → ℕ → Type 0 = Commutes (g.F.Scalars.ops c.args.f.now) c.args.c.now c.args.blocks.now in
    λ s e. all-listed (λ s. PassesBefore P c.loop-s.least s c.args.u) c.faces_of-s-items.result.now c.loop-s.s-index
    (omega arith) c.loop-s.invariant.clears s
    (ap (list_any (nat_eq s)) c.faces_of-s-items.ensures.cells ∙ list_any-faces_of c.args.c.now c.requires.complex s
    c.args.t ∙ e)
