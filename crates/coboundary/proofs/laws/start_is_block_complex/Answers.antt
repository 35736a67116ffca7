use Rattle.coboundary.proofs.StartCoboundaryLaws as start
use Rattle.coboundary.proofs.laws.start_is_block_complex.Goals as goal

pub returns : goal.returns
returns c = start.start_is_block_complex
