-- The fields of a complex, and what they show.
use Rattle.std.specs.Prelude.{◌≡◌, ℕ, List, map}
use Rattle.cell_complex.specs.declared.face.Face.{Face}
use Rattle.cell_complex.specs.declared.face.Sign.{Sign}
use Rattle.cell_complex.specs.Complexes.{CellComplex, all_cells, faces_of}
use Rattle.cell_complex.specs.Invariants.{IsComplex, cofaces_of}

-- an entry of the map from pairs of cells to signs, as a face
abbrev pub face_of_entry : (ℕ × ℕ) × Sign → Face
face_of_entry e = record { s = e.0.0; t = e.0.1; sign = e.1 }

-- the complex with these dimensions, and these entries as its faces
abbrev pub complex_from : List ℕ → List ((ℕ × ℕ) × Sign) → CellComplex
complex_from dims entries = record { dims = dims; faces = map face_of_entry entries }

-- a complex, with the list of the faces and the list of the cofaces of each cell
pub record AreNeighbourLists (c : CellComplex) (below above : List (List ℕ)) : Type 0 where
  pub complex : IsComplex c
  pub below_is : below ≡ map (faces_of c) (all_cells c)
  pub above_is : above ≡ map (cofaces_of c) (all_cells c)
