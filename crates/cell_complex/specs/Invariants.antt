-- What holds of every complex, look-ups in it, and a complex with one face more.
use Rattle.std.specs.Prelude.{◌≡◌, ℕ, ◌+◌, ◌<◌, ◌≤◌, List, [], ◌∷◌, ◌++◌, length, slice_index, filter}
use Rattle.std.specs.Prelude.{All, AllPairs, false, Option, position}
use Rattle.cell_complex.specs.declared.face.Face.{Face}
use Rattle.cell_complex.specs.Complexes.{CellComplex, joins, all_cells, is_face}

-- at most 4,096 cells, each of a dimension of at most 15
pub record AreCells (dims : List ℕ) : Type 0 where
  pub few : length dims ≤ 4096
  pub low : All (λ d. d ≤ 15) dims

-- the face joins two of the cells, the second one dimension above the first
pub record JoinsCells (dims : List ℕ) (f : Face) : Type 0 where
  pub s_is_cell : f.s < length dims
  pub t_is_cell : f.t < length dims
  pub one_up : slice_index dims f.t ≡ slice_index dims f.s + 1

-- two faces that are not of the same pair of cells
abbrev pub AreApart : Face → Face → Type 0
AreApart f g = joins f.s f.t g ≡ false

-- the faces join cells of the complex, and no two join the same pair
pub record IsComplex (c : CellComplex) : Type 0 where
  pub small : AreCells c.dims
  pub fit : All (JoinsCells c.dims) c.faces
  pub apart : AllPairs AreApart c.faces

-- the place of s in t among the faces, where it is one
abbrev pub place : CellComplex → ℕ → ℕ → Option ℕ
place c s t = position (joins s t) c.faces

-- the cells of which s is a face, in rising order
abbrev pub cofaces_of : CellComplex → ℕ → List ℕ
cofaces_of c s = filter (λ t. is_face c s t) (all_cells c)

-- the complex with one face more
abbrev pub with_face : CellComplex → Face → CellComplex
with_face c f = record c { faces = c.faces ++ f ∷ [] }
