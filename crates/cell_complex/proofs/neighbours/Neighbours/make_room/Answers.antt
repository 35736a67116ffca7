use Rattle.std.proofs.Common.{ap, ◌∙◌}
use Rattle.std.proofs.Math.Seq.{map-set_same}
use Rattle.cell_complex.proofs.neighbours.Neighbours.make_room.Goals as goal

pub returns-clause-same : goal.returns-clause-same
returns-clause-same c =
    let v = c.index_mut.result.now in
    map-set_same (λ w. w.items) c.args.self.now.lists.items c.args.cell c.reserve.new.self v
    (c.reserve.ensures.items ∙ ap (λ w. w.items) c.index_mut.ensures.value)
