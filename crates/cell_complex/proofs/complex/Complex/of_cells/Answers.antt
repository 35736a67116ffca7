use Rattle.cell_complex.proofs.Faults.{neighbour_lists-empty}
use Rattle.cell_complex.proofs.complex.Complex.of_cells.Goals as goal

pub invariant_of-result : goal.invariant_of-result
invariant_of-result c =
    let h = neighbour_lists-empty c.args.dims.now (record { few = c.requires.few; low = c.requires.low }) in
    rw (c.new.ensures.empty, c.in_ok-of_cells.ensures, c.in_ok-of_cells-2.ensures, c.in_ok-from_slice.ensures.items) h
