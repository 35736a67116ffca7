use Rattle.std.proofs.Common.{◌<◌, ◌+◌, ℕ, ap, ◌∙◌, length, take, arith}
use Rattle.block_complexes.proofs.LiveLaws.{total-next, total-take}
use Rattle.scalar_finish.proofs.NumberLaws.{length-coordinates, coordinates-push}
use Rattle.scalar_finish.proofs.coordinates.coordinate_cells.Goals as goal

pub push_cells-requires : goal.push_cells-requires
push_cells-requires c =
    let live = c.args.live.now in
    let i : ℕ = c.loop-cell.cell-index in
    let inside : i < length live = omega arith in
    omega (
      arith,
      ap length c.loop-cell.invariant ∙ length-coordinates 0 (take i live),
      total-next live i inside,
      total-take live (i + 1),
      c.requires,
    )

pub loop-cell-preserved : goal.loop-cell-preserved
loop-cell-preserved c =
    let live = c.args.live.now in
    let i : ℕ = c.loop-cell.cell-index in
    let inside : i < length live = omega arith in
    coordinates-push live i c.loop-cell.cells.items c.push_cells.new.cells.items inside c.loop-cell.invariant
    c.in_ok-push_cells.ensures
