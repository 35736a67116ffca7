use Rattle.std.proofs.Common.{◌∙◌}
use Rattle.scalar_finish.proofs.PutLaws.{units-of, units-within}
use Rattle.scalar_finish.proofs.coordinates.coordinates_of.Goals as goal

pub slice_bounds-result-end : goal.slice_bounds-result-end
slice_bounds-result-end c =
    units-within c.args.b.now.live c.args.s c.first_of-first.result c.size-size.result c.as_slice-units.result.now
    c.requires.live c.first_of-first.ensures c.size-size.ensures
    (c.as_slice-units.ensures.value ∙ c.requires.numbers.units)

pub returns : goal.returns
returns c =
    units-of c.args.b.now.live c.args.s c.first_of-first.result c.size-size.result c.as_slice-units.result.now
    c.requires.live c.first_of-first.ensures c.size-size.ensures
    (c.as_slice-units.ensures.value ∙ c.requires.numbers.units)
