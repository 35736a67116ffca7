use Rattle.removals.proofs.RemovalLaws as removal
use Rattle.removals.proofs.laws.removal_keeps_block_complex.Goals as goal

pub returns : goal.returns
returns c = removal.removal_keeps_block_complex
