use Rattle.dense_blocks.proofs.Uniqueness.{one_leading_combination}
use Rattle.dense_blocks.proofs.laws.leading_combination_is_unique.Goals as goal

pub returns : goal.returns
returns c = one_leading_combination
