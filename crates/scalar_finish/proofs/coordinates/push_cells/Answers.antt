use Rattle.std.proofs.Common.{◌≡◌, ap, length, arith, length-append}
use Rattle.scalar_finish.specs.Splits.{unit_cells}
use Rattle.scalar_finish.proofs.NumberLaws.{length-units, units-push}
use Rattle.scalar_finish.proofs.coordinates.push_cells.Goals as goal

pub overflow_cast-number : goal.overflow_cast-number
overflow_cast-number c =
    let first = c.args.cells.now.items in
    let n = length first in
    omega (
      arith,
      ap length c.loop-i.invariant,
      length-append first (unit_cells n c.args.degree c.loop-i.i),
      length-units n c.args.degree c.loop-i.i,
      c.requires,
    )

pub loop-i-preserved : goal.loop-i-preserved
loop-i-preserved c =
    let at : c.len-number.result ≡ length c.loop-i.cells.items = omega arith in
    units-push c.args.cells.now.items c.loop-i.cells.items c.push.new.self.items c.args.degree c.loop-i.i
    c.len-number.result c.loop-i.invariant at c.in_ok-push.ensures.items
