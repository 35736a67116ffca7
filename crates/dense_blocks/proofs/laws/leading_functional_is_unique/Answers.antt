use Rattle.dense_blocks.proofs.Uniqueness.{one_leading_functional}
use Rattle.dense_blocks.proofs.laws.leading_functional_is_unique.Goals as goal

pub returns : goal.returns
returns c = one_leading_functional
