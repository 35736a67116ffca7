use Rattle.coboundary.proofs.StartCoboundaryLaws as start
use Rattle.coboundary.proofs.laws.start_has_the_coboundary.Goals as goal

pub returns : goal.returns
returns c = start.start_has_the_coboundary
