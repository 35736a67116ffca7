use Rattle.std.proofs.Common.{arith}
use Rattle.equivalences.proofs.UnitLaws.{coordinates-fit}
use Rattle.query_answers.proofs.numbers.size.Goals as goal

pub overflow_cast-result : goal.overflow_cast-result
overflow_cast-result c =
    let fits = coordinates-fit c.args.b.now.live c.args.k c.live-live.ensures.live_cells in
    omega (arith, c.coordinates-count.ensures, fits)
