use Rattle.std.proofs.Common.{◌≡◌, ◌<◌, ℕ, ap, ◌∙◌, sym, subst, length, get_or, arith}
use Rattle.block_complexes.specs.BlockComplexes.{cells}
use Rattle.block_sparse.specs.StoredBlocks.{complex_in}
use Rattle.scalar_finish.specs.Beginnings.{IsOnTheWay, IsVisit}
use Rattle.scalar_finish.proofs.EndLaws.{way-start, way-next, way-end}
use Rattle.scalar_finish.proofs.reduction.finish.Goals as goal

pub loop-x-init : goal.loop-x-init
loop-x-init g c =
    let K = g.F.Scalars.ops c.args.f.now in
    let v = complex_in c.args.b in
    subst (λ l. IsOnTheWay K v 0 l v) (sym c.new-log.ensures.items)
    (way-start K v c.requires.units c.requires.over)

pub loop-x-preserved : goal.loop-x-preserved
loop-x-preserved g c =
    let K = g.F.Scalars.ops c.args.f.now in
    let F = g.met.F.Scalars.is_field c.args.f.now in
    let v = complex_in c.args.b in
    let i : ℕ = c.loop-x.x-index in
    let own = c.as_slice-listed.ensures.value ∙ c.in_ok-cells.ensures ∙ ap cells c.live.ensures.live in
    let inside : i < length (cells c.args.b.live) = subst (λ ks. i < length ks) own (omega arith) in
    way-next K F v c.live.ensures.live_cells.rising i inside c.loop-x.log.items c.visit.new.log.items
    (complex_in c.loop-x.rest) (complex_in c.visit.new.b) c.loop-x.invariant
    (subst (λ ks. IsVisit K (complex_in c.loop-x.rest) c.loop-x.log.items (get_or ks i 0)
    (complex_in c.visit.new.b) c.visit.new.log.items) own c.in_ok-visit.ensures)

pub returns-clause-steps : goal.returns-clause-steps
returns-clause-steps g c = c.loop-x.invariant.steps_are

pub returns-clause-finish : goal.returns-clause-finish
returns-clause-finish g c =
    let K = g.F.Scalars.ops c.args.f.now in
    let v = complex_in c.args.b in
    let own = c.as_slice-listed.ensures.value ∙ c.in_ok-cells.ensures ∙ ap cells c.live.ensures.live in
    let end : c.loop-x.x-index ≡ length c.as_slice-listed.result.now = omega arith in
    way-end K v (complex_in c.loop-x.rest) c.loop-x.log.items
    (subst (λ n. IsOnTheWay K v n c.loop-x.log.items (complex_in c.loop-x.rest)) (end ∙ ap length own) c.loop-x.invariant)
