-- Why a face does not fit a complex, and which face of a list is the first that does not.
use Rattle.std.specs.Prelude.{◌+◌, Option, None, Some, length, nat_lt, slice_index}
use Rattle.std.specs.Prelude.{not, if◌then◌else◌, ◌==◌}
use Rattle.cell_complex.specs.declared.face.Face.{Face}
use Rattle.cell_complex.specs.declared.fault.FaceFault.{FaceFault}
use Rattle.cell_complex.specs.declared.fault.FaceFault.TheVariants.{UnknownCell, WrongDims, TwiceFace}
use Rattle.cell_complex.specs.Complexes.{CellComplex, is_face}

-- the first of these: s is no cell, t is no cell, t is not one dimension above s, s is a face of t already
abbrev pub face_fault : CellComplex → Face → Option FaceFault
face_fault c f =
    if not (nat_lt f.s (length c.dims)) then Some (UnknownCell f.s)
    else if not (nat_lt f.t (length c.dims)) then Some (UnknownCell f.t)
    else if not (slice_index c.dims f.t == slice_index c.dims f.s + 1) then Some (WrongDims f.s f.t)
    else if is_face c f.s f.t then Some (TwiceFace f.s f.t)
    else None
