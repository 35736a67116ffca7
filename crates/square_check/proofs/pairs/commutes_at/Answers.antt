use Rattle.std.proofs.Common.{◌≡◌, ℕ, List, ◌∷◌, Some, slice_get, sym, ap, ◌∙◌}
use Rattle.cell_complex.specs.Complexes.{CellComplex, middles}
use Rattle.dense_blocks.specs.Field.{Ops}
use Rattle.square_check.specs.Squares.{restriction}
use Rattle.square_check.proofs.Placed.{FitsFace, restriction-fits}
use Rattle.square_check.proofs.Commuting.{IsBetween, between-head, between-second, middles-two, commutes-two}
use Rattle.square_check.proofs.pairs.commutes_at.Goals as goal

-- the first cells between s and u
one : (c : CellComplex) (s u a : ℕ) (all some : List ℕ) → all ≡ middles c s u → all ≡ a ∷ some → middles c s u ≡ a ∷ some
one c s u a all some is first = sym is ∙ first

two : (c : CellComplex) (s u a b : ℕ) (all some rest : List ℕ) → all ≡ middles c s u → all ≡ a ∷ some → some ≡ b ∷ rest
    → middles c s u ≡ a ∷ b ∷ rest
two c s u a b all some rest is first second = sym is ∙ first ∙ ap (λ ts. a ∷ ts) second

pub restriction_near-up-requires-clause-face : goal.restriction_near-up-requires-clause-face
restriction_near-up-requires-clause-face g c =
    (between-head c.args.c.now c.args.s c.args.u c.in-Some.first _
    (one c.args.c.now c.args.s c.args.u _ _ _ c.middles-middles.ensures c.in-Some.ensures.steps)).upper

pub restriction_near-second_up-requires-clause-face : goal.restriction_near-second_up-requires-clause-face
restriction_near-second_up-requires-clause-face g c =
    (between-second c.args.c.now c.args.s c.args.u c.in-Some.first c.in-Some-next.second _
    (two c.args.c.now c.args.s c.args.u _ _ _ _ _ c.middles-middles.ensures c.in-Some.ensures.steps
    c.in-Some-next.ensures.steps)).upper

pub restriction-requires-clause-face : goal.restriction-requires-clause-face
restriction-requires-clause-face g c =
    (between-second c.args.c.now c.args.s c.args.u c.in-Some.first c.in-Some-next.second _
    (two c.args.c.now c.args.s c.args.u _ _ _ _ _ c.middles-middles.ensures c.in-Some.ensures.steps
    c.in-Some-next.ensures.steps)).lower

pub square-requires : goal.square-requires
square-requires g c =
    let K : Ops = g.F.Scalars.ops c.args.f.now in
    let all : CellComplex = c.args.c.now in
    let blocks = c.args.blocks.now in
    let r = c.requires.restrictions in
    let s : ℕ = c.args.s in
    let u : ℕ = c.args.u in
    let a : ℕ = c.in-Some.first in
    let b : ℕ = c.in-Some-next.second in
    let is = two all s u a b _ _ _ c.middles-middles.ensures c.in-Some.ensures.steps c.in-Some-next.ensures.steps in
    let first : IsBetween all s u a = between-head all s u a _ is in
    let second : IsBetween all s u b = between-second all s u a b _ is in
    let up1 : FitsFace K r.stalks a u c.restriction_near-up.result.now = restriction-fits K all blocks r a u _
    first.upper c.restriction_near-up.ensures in
    let low1 : FitsFace K r.stalks s a c.args.low.now = restriction-fits K all blocks r s a _ first.lower
    (ap (restriction all blocks s) c.if-first-t.false ∙ c.requires.low) in
    let up2 : FitsFace K r.stalks b u c.restriction_near-second_up.result.now = restriction-fits K all blocks r b u _
    second.upper c.restriction_near-second_up.ensures in
    let low2 : FitsFace K r.stalks s b c.restriction.result.now = restriction-fits K all blocks r s b _ second.lower
    c.restriction.ensures in
    record {
      inner1 = up1.cols ∙ sym low1.rows;
      inner2 = up2.cols ∙ sym low2.rows;
      rows = up1.rows ∙ sym up2.rows;
      cols = low1.cols ∙ sym low2.cols;
      up1_scalars = up1.scalars;
      low1_scalars = low1.scalars;
      up2_scalars = up2.scalars;
      low2_scalars = low2.scalars;
    }

pub returns : goal.returns
returns g c =
    let K : Ops = g.F.Scalars.ops c.args.f.now in
    let all : CellComplex = c.args.c.now in
    let blocks = c.args.blocks.now in
    let r = c.requires.restrictions in
    let s : ℕ = c.args.s in
    let u : ℕ = c.args.u in
    let a : ℕ = c.in-Some.first in
    let b : ℕ = c.in-Some-next.second in
    let is = two all s u a b _ _ _ c.middles-middles.ensures c.in-Some.ensures.steps c.in-Some-next.ensures.steps in
    let first : IsBetween all s u a = between-head all s u a _ is in
    let second : IsBetween all s u b = between-second all s u a b _ is in
    let low = ap (restriction all blocks s) c.if-first-t.false ∙ c.requires.low in
    let low1 : FitsFace K r.stalks s a c.args.low.now = restriction-fits K all blocks r s a _ first.lower low in
    let low2 : FitsFace K r.stalks s b c.restriction.result.now = restriction-fits K all blocks r s b _ second.lower
    c.restriction.ensures in
    let both = commutes-two K all blocks s u a b (middles-two all c.requires.complex c.requires.regular s u a b _ is)
    c.square.result
    c.restriction_near-up.result.now c.args.low.now c.restriction_near-second_up.result.now c.restriction.result.now
    c.restriction_near-up.ensures low c.restriction_near-second_up.ensures c.restriction.ensures
    (low1.cols ∙ sym low2.cols) c.square.ensures in (
      λ yes. λ _. both.0 yes,
      λ h. both.1 (h (ap (λ ts. slice_get ts 0) is ∙ ap Some c.if-first-t.false)),
    )
