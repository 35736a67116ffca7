use Rattle.std.proofs.Common.{sym, ◌∙◌, subst, arith}
use Rattle.std.specs.List.Sorted.{IsStrictlyIncreasing}
use Rattle.cell_complex.specs.Neighbours.{neighbour_lists}
use Rattle.cell_complex.specs.Fields.{AreNeighbourLists}
use Rattle.cell_complex.proofs.Faults.{above-size, above-at, cofaces_of-rise}
use Rattle.cell_complex.proofs.complex.Complex.cofaces_of.Goals as goal

pub list-requires : goal.list-requires
list-requires c =
    let below = neighbour_lists c.self.inside.below in
    let above = neighbour_lists c.self.inside.above in
    let kept : AreNeighbourLists c.args.self.now below above = subst (λ all. AreNeighbourLists all below above)
    c.self.view_is c.self.invariant in
    omega (arith, above-size c.args.self.now below above kept)

pub returns-clause-cells : goal.returns-clause-cells
returns-clause-cells c =
    let below = neighbour_lists c.self.inside.below in
    let above = neighbour_lists c.self.inside.above in
    let kept : AreNeighbourLists c.args.self.now below above = subst (λ all. AreNeighbourLists all below above)
    c.self.view_is c.self.invariant in
    c.list.ensures ∙ above-at c.args.self.now below above kept c.args.s c.requires

pub returns-clause-rising : goal.returns-clause-rising
returns-clause-rising c =
    subst IsStrictlyIncreasing (sym (returns-clause-cells c)) (cofaces_of-rise c.args.self.now c.args.s)
