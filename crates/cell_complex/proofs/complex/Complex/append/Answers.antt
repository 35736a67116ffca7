use Rattle.std.proofs.Common.{sym, subst, arith}
use Rattle.std.specs.List.Sorted.{IsNonDecreasing}
use Rattle.std.proofs.lemmas.List.{map-append}
use Rattle.cell_complex.specs.Neighbours.{neighbour_lists}
use Rattle.cell_complex.specs.Complexes.{CellComplex, faces_of}
use Rattle.cell_complex.specs.Invariants.{cofaces_of}
use Rattle.cell_complex.specs.Fields.{face_of_entry, complex_from}
use Rattle.cell_complex.proofs.Numbers.{non_decreasing}
use Rattle.cell_complex.proofs.Entries.{none-lookup}
use Rattle.cell_complex.proofs.Faults.{IsNew, new_from_none, new_from_view, below-size, above-size, below-at, above-at, faces_of-rise}
use Rattle.cell_complex.proofs.Faults.{cofaces_of-rise, neighbour_lists-with_face}
use Rattle.cell_complex.proofs.complex.Complex.append.Goals as goal

pub faces_of-before-requires : goal.faces_of-before-requires
faces_of-before-requires c =
    let new : IsNew c.args.self.now c.args.face = new_from_none c.args.self.now c.args.face c.requires in
    new.fits.t_is_cell

pub keep_face-requires-clause-s_is_cell : goal.keep_face-requires-clause-s_is_cell
keep_face-requires-clause-s_is_cell c =
    let all : CellComplex = complex_from c.self.inside.dims.items c.self.inside.signs.entries in
    let new : IsNew all c.args.face = new_from_view all c.args.self.now c.args.face c.self.view_is c.requires in
    omega (
      arith,
      new.fits.s_is_cell,
      above-size all (neighbour_lists c.self.inside.below)
          (neighbour_lists c.self.inside.above) c.self.invariant,
    )

pub keep_face-requires-clause-t_is_cell : goal.keep_face-requires-clause-t_is_cell
keep_face-requires-clause-t_is_cell c =
    let all : CellComplex = complex_from c.self.inside.dims.items c.self.inside.signs.entries in
    let new : IsNew all c.args.face = new_from_view all c.args.self.now c.args.face c.self.view_is c.requires in
    omega (
      arith,
      new.fits.t_is_cell,
      below-size all (neighbour_lists c.self.inside.below)
          (neighbour_lists c.self.inside.above) c.self.invariant,
    )

pub keep_face-requires-clause-below_rises : goal.keep_face-requires-clause-below_rises
keep_face-requires-clause-below_rises c =
    let all : CellComplex = complex_from c.self.inside.dims.items c.self.inside.signs.entries in
    let new : IsNew all c.args.face = new_from_view all c.args.self.now c.args.face c.self.view_is c.requires in
    subst IsNonDecreasing
    (sym (below-at all (neighbour_lists c.self.inside.below) (neighbour_lists c.self.inside.above) c.self.invariant
    c.args.face.t new.fits.t_is_cell))
    (non_decreasing (faces_of all c.args.face.t) (faces_of-rise all c.args.face.t))

pub keep_face-requires-clause-above_rises : goal.keep_face-requires-clause-above_rises
keep_face-requires-clause-above_rises c =
    let all : CellComplex = complex_from c.self.inside.dims.items c.self.inside.signs.entries in
    let new : IsNew all c.args.face = new_from_view all c.args.self.now c.args.face c.self.view_is c.requires in
    subst IsNonDecreasing
    (sym (above-at all (neighbour_lists c.self.inside.below) (neighbour_lists c.self.inside.above) c.self.invariant
    c.args.face.s new.fits.s_is_cell))
    (non_decreasing (cofaces_of all c.args.face.s) (cofaces_of-rise all c.args.face.s))

pub keep_face-requires-clause-absent : goal.keep_face-requires-clause-absent
keep_face-requires-clause-absent c =
    let all : CellComplex = complex_from c.self.inside.dims.items c.self.inside.signs.entries in
    let new : IsNew all c.args.face = new_from_view all c.args.self.now c.args.face c.self.view_is c.requires in
    none-lookup c.args.face.s c.args.face.t c.self.inside.signs.entries new.absent

pub invariant_of-self-2 : goal.invariant_of-self-2
invariant_of-self-2 c =
    let all : CellComplex = complex_from c.self.inside.dims.items c.self.inside.signs.entries in
    let below = neighbour_lists c.self.inside.below in
    let above = neighbour_lists c.self.inside.above in
    let new : IsNew all c.args.face = new_from_view all c.args.self.now c.args.face c.self.view_is c.requires in
    let kept = neighbour_lists-with_face all below above c.self.invariant c.args.face new in
    rw (c.in_ok-keep_face.ensures.signs, c.in_ok-keep_face.ensures.below, c.in_ok-keep_face.ensures.above)
    (rw (map-append face_of_entry c.self.inside.signs.entries) kept)
