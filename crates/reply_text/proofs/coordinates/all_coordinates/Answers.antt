use Rattle.std.proofs.Common.{◌+◌, get_or, take}
use Rattle.reply_text.proofs.Counting.{take_at}
use Rattle.reply_text.proofs.BlockLines.{found-more}
use Rattle.reply_text.proofs.CoordinateLaws.{sizes-none, sizes-next, next-is}
use Rattle.reply_text.proofs.coordinates.all_coordinates.Goals as goal

pub loop-cell-init : goal.loop-cell-init
loop-cell-init c = (c.in_ok-list.ensures.items, sizes-none)

pub loop-cell-preserved : goal.loop-cell-preserved
loop-cell-preserved c =
    let cells = c.args.cells.now in
    let i = c.loop-cell.cell-index in
    let cell = get_or cells i (0, 0, 0) in
    let sizes = c.loop-cell.sizes in
    let next = take_at cells i (0, 0, 0) c.loop-cell-test.true in
    let degree = c.next_coordinates-next.ensures.degree in (
      found-more cells i cell c.loop-cell.list.items c.push.new.self.items c.next_coordinates-next.result
          c.loop-cell.invariant.0 c.in_ok-push.ensures.items
          (next-is (take i cells) sizes cell c.next_coordinates-next.result c.loop-cell.invariant.1 degree
          c.next_coordinates-next.ensures.coordinates) next,
      sizes-next (take i cells) (take (i + 1) cells) sizes _ cell c.loop-cell.invariant.1
          c.next_coordinates-next.ensures.sizes next,
    )
