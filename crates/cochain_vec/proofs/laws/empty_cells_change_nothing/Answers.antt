use Rattle.cochain_vec.proofs.StalklessLaws as stalkless
use Rattle.cochain_vec.proofs.laws.empty_cells_change_nothing.Goals as goal

pub returns : goal.returns
returns c = stalkless.empty_cells_change_nothing
