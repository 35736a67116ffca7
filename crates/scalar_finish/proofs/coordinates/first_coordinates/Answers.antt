use Rattle.std.proofs.Common.{◌<◌, ◌+◌, ℕ, length, arith}
use Rattle.block_complexes.proofs.LiveLaws.{total-next, total-take}
use Rattle.scalar_finish.proofs.PutLaws.{firsts-push}
use Rattle.scalar_finish.proofs.coordinates.first_coordinates.Goals as goal

pub overflow_add-count : goal.overflow_add-count
overflow_add-count c =
    let live = c.args.live.now in
    let i : ℕ = c.loop-cell.cell-index in
    let inside : i < length live = omega arith in
    omega (arith, c.loop-cell.invariant.1, total-next live i inside, total-take live (i + 1), c.requires)

pub loop-cell-preserved : goal.loop-cell-preserved
loop-cell-preserved c =
    let live = c.args.live.now in
    let i : ℕ = c.loop-cell.cell-index in
    let inside : i < length live = omega arith in (
      firsts-push live i c.loop-cell.count c.loop-cell.firsts.items c.push.new.self.items inside
          c.loop-cell.invariant.0 c.loop-cell.invariant.1 c.in_ok-push.ensures.items,
      omega (arith, c.loop-cell.invariant.1, total-next live i inside),
    )
