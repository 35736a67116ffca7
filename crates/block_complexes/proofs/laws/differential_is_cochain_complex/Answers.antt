use Rattle.block_complexes.proofs.ComplexLaws as complexes
use Rattle.block_complexes.proofs.laws.differential_is_cochain_complex.Goals as goal

pub returns : goal.returns
returns c = complexes.differential_is_cochain_complex
