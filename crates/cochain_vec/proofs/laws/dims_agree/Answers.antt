use Rattle.cochain_vec.proofs.DimensionLaws as dimensions
use Rattle.cochain_vec.proofs.laws.dims_agree.Goals as goal

pub returns : goal.returns
returns c = dimensions.dimensions_agree
