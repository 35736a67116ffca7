use Rattle.std.proofs.Common.{ap, option_copied}
use Rattle.block_grids.proofs.grids.push_corner.Goals as goal

pub row-requires : goal.row-requires
row-requires c = c.requires c.in-Some.b.now (ap option_copied c.in-Some.is)
