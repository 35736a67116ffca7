use Rattle.coboundary.proofs.ClosedLaws as closed
use Rattle.coboundary.proofs.laws.coboundaries_are_cocycles.Goals as goal

pub returns : goal.returns
returns c = closed.coboundaries_are_cocycles
