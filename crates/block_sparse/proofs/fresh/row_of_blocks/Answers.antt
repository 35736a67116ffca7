use Rattle.block_sparse.proofs.GridLaws.{fresh-row}
use Rattle.block_sparse.proofs.fresh.row_of_blocks.Goals as goal

pub returns : goal.returns
returns c = fresh-row _ _ _ _ _ c.in_ok-parts.parts.items c.with_blocks.result c.in_ok-parts.ensures.count
    c.in_ok-parts.ensures.parts c.with_blocks.ensures
