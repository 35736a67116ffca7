use Rattle.std.proofs.Common.{ap, option_copied}
use Rattle.block_grids.proofs.JoinLaws.{zero-part}
use Rattle.block_grids.proofs.grids.is_corner.Goals as goal

pub is_same_at-requires-clause-height : goal.is_same_at-requires-clause-height
is_same_at-requires-clause-height c = (c.requires.shaped c.in-Some.b.now (ap option_copied c.in-Some.is)).0

pub is_same_at-requires-clause-width : goal.is_same_at-requires-clause-width
is_same_at-requires-clause-width c = (c.requires.shaped c.in-Some.b.now (ap option_copied c.in-Some.is)).1

pub returns-in-None : goal.returns-in-None
returns-in-None c =
    zero-part (option_copied c.args.block) c.args.joined.now c.args.row c.args.height c.args.col c.args.width
    c.is_zero_at.result (ap option_copied c.in-None.is) c.requires.rows c.requires.cols c.is_zero_at.ensures
