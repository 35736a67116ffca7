-- Complexes: a list of the dimensions of the cells, and a list of faces.
use Rattle.std.specs.Prelude.{ℕ, Bool, List, Option, length, filter}
use Rattle.std.specs.Prelude.{find, ◌==◌, ◌&&◌}
use Rattle.std.specs.List.{list_any, range_with_len}
use Rattle.std.specs.Option.{option_map}
use Rattle.cell_complex.specs.declared.face.Face.{Face}
use Rattle.cell_complex.specs.declared.face.Sign.{Sign}

-- the dimensions of the cells, and the faces in order of insertion
pub record CellComplex : Type 0 where
  pub dims : List ℕ
  pub faces : List Face

-- whether the face is that of s in t
abbrev pub joins : ℕ → ℕ → Face → Bool
joins s t f = (s == f.s) && (t == f.t)

-- the cells, in rising order
abbrev pub all_cells : CellComplex → List ℕ
all_cells c = range_with_len 0 (length c.dims)

-- whether s is a face of t
abbrev pub is_face : CellComplex → ℕ → ℕ → Bool
is_face c s t = list_any (joins s t) c.faces

-- the sign of s in t, where it is a face
abbrev pub sign : CellComplex → ℕ → ℕ → Option Sign
sign c s t = option_map (λ f. f.sign) (find (joins s t) c.faces)

-- the cells that are faces of t, in rising order
abbrev pub faces_of : CellComplex → ℕ → List ℕ
faces_of c t = filter (λ s. is_face c s t) (all_cells c)

-- the cells between s and u, in rising order
abbrev pub middles : CellComplex → ℕ → ℕ → List ℕ
middles c s u = filter (λ t. is_face c s t && is_face c t u) (all_cells c)
