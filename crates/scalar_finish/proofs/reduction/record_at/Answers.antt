use Rattle.std.proofs.Common.{ap, ◌∙◌, sym, subst}
use Rattle.reduce_step.specs.Differences.{Fits}
use Rattle.scalar_finish.proofs.PairLaws.{pair-stands, pair-square, pair-fits, pivot-rows, pivot-nonzero}
use Rattle.scalar_finish.proofs.reduction.record_at.Goals as goal

pub copy-requires-clause-stands : goal.copy-requires-clause-stands
copy-requires-clause-stands g c =
    pair-stands (g.F.Scalars.ops c.args.f.now) (g.met.F.Scalars.is_field c.args.f.now) c.args.b.now
    c.live-live.ensures.sound c.requires.units c.requires.over c.args.x c.args.y c.requires.first

pub copy-requires-clause-square : goal.copy-requires-clause-square
copy-requires-clause-square g c =
    pair-square (g.F.Scalars.ops c.args.f.now) (g.met.F.Scalars.is_field c.args.f.now) c.args.b.now
    c.live-live.ensures.sound c.requires.units c.requires.over c.args.x c.args.y c.requires.first

pub record_of-requires-clause-over : goal.record_of-requires-clause-over
record_of-requires-clause-over g c = c.in_ok-foot.ensures.over (g.F.Scalars.ops c.args.f.now) c.requires.over

pub record_of-requires-clause-one : goal.record_of-requires-clause-one
record_of-requires-clause-one g c =
    pivot-rows (g.F.Scalars.ops c.args.f.now) (g.met.F.Scalars.is_field c.args.f.now) c.args.b.now
    c.live-live.ensures.sound c.requires.units c.requires.over c.args.x c.args.y c.requires.first c.in_ok-foot.foot
    c.in_ok-foot.ensures.copied

pub record_of-requires-clause-nonzero : goal.record_of-requires-clause-nonzero
record_of-requires-clause-nonzero g c =
    pivot-nonzero (g.F.Scalars.ops c.args.f.now) (g.met.F.Scalars.is_field c.args.f.now) c.args.b.now
    c.live-live.ensures.sound c.requires.units c.requires.over c.args.x c.args.y c.requires.first c.in_ok-foot.foot
    c.in_ok-foot.ensures.copied

pub returns-clause-fits : goal.returns-clause-fits
returns-clause-fits g c =
    subst (Fits c.args.b.now) (sym c.in_ok-record.ensures.footprint)
    (pair-fits (g.F.Scalars.ops c.args.f.now) (g.met.F.Scalars.is_field c.args.f.now) c.args.b.now
    c.live-live.ensures.sound c.requires.units c.requires.over c.args.x c.args.y c.requires.first c.in_ok-foot.foot
    c.in_ok-foot.ensures.copied)

pub returns-clause-from : goal.returns-clause-from
returns-clause-from g c = ap (λ f. f.x) c.in_ok-record.ensures.footprint ∙ c.in_ok-foot.ensures.copied.from

pub returns-clause-to : goal.returns-clause-to
returns-clause-to g c = ap (λ f. f.y) c.in_ok-record.ensures.footprint ∙ c.in_ok-foot.ensures.copied.to
