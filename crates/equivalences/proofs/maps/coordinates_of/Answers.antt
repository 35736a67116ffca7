use Rattle.std.proofs.Common.{arith}
use Rattle.equivalences.proofs.UnitLaws.{coordinates-fit}
use Rattle.equivalences.proofs.maps.coordinates_of.Goals as goal

pub overflow_cast-result : goal.overflow_cast-result
overflow_cast-result c =
    omega (arith, c.coordinates-count.ensures, coordinates-fit c.args.base.now.live c.args.k c.live-live.ensures.live_cells)

pub returns-clause-fits : goal.returns-clause-fits
returns-clause-fits c =
    omega (arith, c.coordinates-count.ensures, coordinates-fit c.args.base.now.live c.args.k c.live-live.ensures.live_cells)
