-- Squares at faces that are named.
use Rattle.std.specs.Prelude.{◌≡◌, ℕ, Bool, false, List, slice_get, All, ◌||◌}
use Rattle.std.specs.List.{list_any, filter_map}
use Rattle.cell_complex.specs.declared.face.Face.{Face}
use Rattle.cell_complex.specs.Complexes.{CellComplex, joins, middles}
use Rattle.dense_blocks.specs.Field.{Ops}
use Rattle.dense_blocks.specs.Vectors.{AllScalars}
use Rattle.dense_blocks.specs.declared.block.Block.{Block}
use Rattle.square_check.specs.Squares.{HaveShapes, Commutes}

-- a block of scalars for each face, in the order of the faces, from stalk to stalk
pub record AreRestrictions (K : Ops) (c : CellComplex) (blocks : List Block) : Type 0 where
  pub stalks : List ℕ
  pub shapes : HaveShapes stalks c.faces blocks
  pub scalars : All (λ b. AllScalars K b.entries) blocks

-- the faces at these places
abbrev pub faces_at : CellComplex → List ℕ → List Face
faces_at c places = filter_map (slice_get c.faces) places

-- whether, through some cell between s and u, one of the faces is the lower or the upper one
abbrev pub is_touched : CellComplex → List Face → ℕ → ℕ → Bool
is_touched c faces s u = list_any (λ t. list_any (joins s t) faces || list_any (joins t u) faces) (middles c s u)

-- all squares commute through which none of the faces at these places goes
abbrev pub OthersCommute : Ops → CellComplex → List Block → List ℕ → Type 0
OthersCommute K c blocks places = (s u : ℕ) → is_touched c (faces_at c places) s u ≡ false → Commutes K c blocks s u
