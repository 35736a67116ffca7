use Rattle.std.proofs.Common.{◌∙◌, ap, subst}
use Rattle.block_sparse.specs.Invariants.{IsSound}
use Rattle.first_reduction.proofs.AdvanceLaws.{none-tried, way-step, way-over}
use Rattle.first_reduction.proofs.reduction.reduce.Goals as goal

pub pairs-preserved : goal.pairs-preserved
pairs-preserved g c =
    let h = c.pairs.invariant in
    let same = c.first_footprint.ensures.same in (
      c.try_pair.ensures.field ∙ ap (λ s. s.f) same ∙ h.0,
      c.try_pair.ensures.base ∙ ap (λ s. s.base) same ∙ h.1,
      c.try_pair.ensures.carried,
      way-step g.F.Scalars.ops c.args.slot.now c.pairs.slot c.first_footprint.new.slot c.try_pair.new.slot same h.0
          c.in_ok-try_pair-in-Some.ensures.advance h.3,
    )

pub returns-in-None-clause-reduced : goal.returns-in-None-clause-reduced
returns-in-None-clause-reduced g c =
    let s = c.args.slot.now in
    let same = c.first_footprint.ensures.same in
    let h = c.pairs.invariant in
    let present = c.now.ensures.present in
    way-over g.F.Scalars.ops s c.pairs.slot c.first_footprint.new.slot (g.met.F.Scalars.is_field s.f) same h.0
    (subst (λ b. IsSound b.live b.rows b.columns) present c.live-cells.ensures.sound) c.now.ensures.slot.flags
    (none-tried c.pairs.slot.present c.pairs.slot.present c.in_ok-foot.field-0 c.in-None.is c.in_ok-foot.ensures.first)
    h.3
