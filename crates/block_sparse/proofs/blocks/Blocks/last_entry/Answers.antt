use Rattle.std.proofs.Common.{sym, subst}
use Rattle.rising_lists.specs.Rising.{IsRising}
use Rattle.block_sparse.proofs.blocks.Blocks.last_entry.Goals as goal

pub line-requires : goal.line-requires
line-requires c = c.requires.between.to

pub is_behind-requires : goal.is_behind-requires
is_behind-requires c = subst IsRising (sym c.cells.ensures.cells) c.cells.ensures.line.rising
