use Rattle.std.proofs.Common.{◌-◌, length, get_or, arith, ltb-true}
use Rattle.rising_lists.proofs.Keyed.{rising_le}
use Rattle.block_sparse.proofs.blocks.is_behind.Goals as goal

pub returns : goal.returns
returns c = λ h i l.
    let cells = c.args.cells.now in
    let last = ltb-true (get_or cells (length cells - 1) 0) c.args.c h in
    omega (arith, last, rising_le cells c.requires i (length cells - 1) (omega arith) (omega arith))
