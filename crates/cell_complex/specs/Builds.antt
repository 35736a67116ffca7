-- What building a complex face by face accepts.
use Rattle.std.specs.Prelude.{◌≡◌, ℕ, ◌<◌, List, None, Some, length, take, slice_get}
use Rattle.cell_complex.specs.declared.face.Face.{Face}
use Rattle.cell_complex.specs.declared.fault.FaceFault.{FaceFault}
use Rattle.cell_complex.specs.Complexes.{CellComplex}
use Rattle.cell_complex.specs.Verdicts.{face_fault}

-- the cells with the first n of these faces
abbrev pub with_first_faces : List ℕ → List Face → ℕ → CellComplex
with_first_faces dims faces n = record { dims = dims; faces = take n faces }

-- no face has a fault, after those before it
abbrev pub AllAccepted : List ℕ → List Face → Type 0
AllAccepted dims faces = (k : ℕ) (f : Face) → slice_get faces k ≡ Some f → face_fault (with_first_faces dims faces k) f
    ≡ None

-- the face at the place has this fault, and no face before it has one
pub record IsFirstFault (dims : List ℕ) (faces : List Face) (at : ℕ) (fault : FaceFault) : Type 0 where
  pub fails : (f : Face) → slice_get faces at ≡ Some f → face_fault (with_first_faces dims faces at) f ≡ Some fault
  pub within : at < length faces
  pub earlier : AllAccepted dims (take at faces)
