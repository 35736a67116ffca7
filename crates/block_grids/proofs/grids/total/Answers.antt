use Rattle.std.proofs.Common.{◌<◌, ℕ, length, arith}
use Rattle.block_sparse.proofs.Windows.{width-next, width-within}
use Rattle.block_grids.proofs.grids.total.Goals as goal

pub overflow_add-total : goal.overflow_add-total
overflow_add-total c =
    let listed = c.args.listed.now in
    let i : ℕ = c.loop-cell.cell-index in
    let inside : i < length listed = omega arith in
    omega (arith, c.loop-cell.invariant, width-within listed i inside, c.requires)

pub loop-cell-preserved : goal.loop-cell-preserved
loop-cell-preserved c =
    let listed = c.args.listed.now in
    let i : ℕ = c.loop-cell.cell-index in
    let inside : i < length listed = omega arith in
    omega (arith, c.loop-cell.invariant, width-next listed i inside)
