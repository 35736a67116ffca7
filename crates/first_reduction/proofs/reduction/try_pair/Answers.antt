use Rattle.std.proofs.Common.{sym, subst}
use Rattle.block_sparse.specs.Invariants.{IsSound}
use Rattle.reduce_step.specs.Differences.{Fits}
use Rattle.reduce_step.specs.Finishes.{Finishes}
use Rattle.reduce_step.proofs.FinishLaws.{made-record, finish-known}
use Rattle.first_reduction.proofs.AdvanceLaws.{weaker, first-fits, committed-advance, marked-advance, singular-stands}
use Rattle.first_reduction.proofs.reduction.try_pair.Goals as goal

pub remove-requires-clause-fits : goal.remove-requires-clause-fits
remove-requires-clause-fits g c =
    let s = c.args.slot.now in
    let sound = subst (λ b. IsSound b.live b.rows b.columns) c.now.ensures.present c.live-cells.ensures.sound in
    let made = made-record _ _ c.args.foot c.finish.result c.in-Ok-Made.field-0 c.in-Ok-Made.record
    c.finish.ensures.finish
    c.in-Ok-Made.is c.in-Ok-Made.field-0-is in
    subst (Fits s.present) (sym made.footprint)
    (first-fits (g.F.Scalars.ops s.f) (g.met.F.Scalars.is_field s.f) s sound c.now.ensures.slot c.args.foot
    c.requires.first)

pub returns-in-Ok-Made-clause-advance : goal.returns-in-Ok-Made-clause-advance
returns-in-Ok-Made-clause-advance g c =
    let s = c.args.slot.now in
    let sound = subst (λ b. IsSound b.live b.rows b.columns) c.now.ensures.present c.live-cells.ensures.sound in
    let made = made-record _ _ c.args.foot c.finish.result c.in-Ok-Made.field-0 c.in-Ok-Made.record
    c.finish.ensures.finish
    c.in-Ok-Made.is c.in-Ok-Made.field-0-is in
    weaker c.remove.result _ _
    (committed-advance (g.F.Scalars.ops s.f) (g.met.F.Scalars.is_field s.f) s sound c.now.ensures.slot c.args.foot
    c.requires.first c.in-Ok-Made.record c.remove.new.slot made.footprint)
    c.remove.ensures.committed

pub set_flag-requires-clause-stands : goal.set_flag-requires-clause-stands
set_flag-requires-clause-stands g c =
    let s = c.args.slot.now in
    let sound = subst (λ b. IsSound b.live b.rows b.columns) c.now.ensures.present c.live-cells.ensures.sound in
    let f = c.field-f.result in
    let singular = subst (Finishes (g.F.Scalars.ops f) f c.args.foot) c.in-Ok-Singular.field-0-is
    (finish-known (g.F.Scalars.ops f) f c.args.foot c.finish.result c.in-Ok-Singular.field-0 c.finish.ensures.finish
    c.in-Ok-Singular.is) in
    singular-stands (g.F.Scalars.ops s.f) (g.met.F.Scalars.is_field s.f) s sound c.now.ensures.slot c.args.foot
    c.requires.first c.in-Ok-Singular.x c.in-Ok-Singular.y c.in-Ok-Singular.pivot singular.from singular.to
    singular.pivot_is

pub returns-in-Ok-Singular-clause-advance : goal.returns-in-Ok-Singular-clause-advance
returns-in-Ok-Singular-clause-advance g c =
    let s = c.args.slot.now in
    let sound = subst (λ b. IsSound b.live b.rows b.columns) c.now.ensures.present c.live-cells.ensures.sound in
    let f = c.field-f.result in
    let singular = subst (Finishes (g.F.Scalars.ops f) f c.args.foot) c.in-Ok-Singular.field-0-is
    (finish-known (g.F.Scalars.ops f) f c.args.foot c.finish.result c.in-Ok-Singular.field-0 c.finish.ensures.finish
    c.in-Ok-Singular.is) in
    marked-advance (g.F.Scalars.ops s.f) (g.met.F.Scalars.is_field s.f) s sound c.now.ensures.slot c.args.foot
    c.requires.first c.in-Ok-Singular.x c.in-Ok-Singular.y c.in-Ok-Singular.pivot c.set_flag.new.slot singular.from
    singular.to c.set_flag.ensures
