use Rattle.scalar_finish.proofs.DimensionLaws.{finish_counts_dimensions}
use Rattle.scalar_finish.proofs.laws.finish_counts_dimensions.Goals as goal

pub returns : goal.returns
returns c = finish_counts_dimensions
