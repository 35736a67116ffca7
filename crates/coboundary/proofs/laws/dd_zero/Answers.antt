use Rattle.coboundary.proofs.ClosedLaws as closed
use Rattle.coboundary.proofs.laws.dd_zero.Goals as goal

pub returns : goal.returns
returns c = closed.dd_zero
