use Rattle.std.proofs.Common.{subst}
use Rattle.reduce_step.specs.Finishes.{Finishes}
use Rattle.reduce_step.proofs.FinishLaws.{made-record, finish-known}
use Rattle.scalar_finish.proofs.PairLaws.{not-singular}
use Rattle.scalar_finish.proofs.reduction.record_of.Goals as goal

pub returns-in-Ok-Made : goal.returns-in-Ok-Made
returns-in-Ok-Made g c =
    made-record _ _ c.args.foot c.finish.result c.in-Ok-Made.field-0 c.in-Ok-Made.record c.finish.ensures.finish
    c.in-Ok-Made.is c.in-Ok-Made.field-0-is

pub unreachable-requires : goal.unreachable-requires
unreachable-requires g c =
    let f = c.args.f.now in
    let K = g.F.Scalars.ops f in
    not-singular K (g.met.F.Scalars.is_field f) c.args.foot _ _ _ _ c.requires.over c.requires.one c.requires.nonzero
    (subst (Finishes K f c.args.foot) c.in-Ok-Singular.field-0-is
    (finish-known K f c.args.foot c.finish.result c.in-Ok-Singular.field-0 c.finish.ensures.finish c.in-Ok-Singular.is))
