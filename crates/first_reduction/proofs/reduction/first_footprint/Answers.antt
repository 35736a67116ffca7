use Rattle.first_reduction.proofs.AdvanceLaws.{work-first}
use Rattle.first_reduction.proofs.reduction.first_footprint.Goals as goal

pub returns-in-Try-clause-first : goal.returns-in-Try-clause-first
returns-in-Try-clause-first g c =
    let s = c.args.slot.now in
    work-first s.present s.carried _ _ c.in-Try.foot c.in-Try.is c.in_ok-foot.ensures.takes
