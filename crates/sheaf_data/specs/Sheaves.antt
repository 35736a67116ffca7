-- Cellular sheaves: stalks and restrictions over a complex (Curry, Sheaves, Cosheaves and Applications, 2014).
use Rattle.std.specs.Prelude.{◌≡◌, ℕ, ◌≤◌, List, length, sum, All}
use Rattle.cell_complex.specs.Complexes.{CellComplex}
use Rattle.dense_blocks.specs.Field.{Ops}
use Rattle.dense_blocks.specs.Vectors.{AllScalars}
use Rattle.dense_blocks.specs.declared.block.Block.{Block}
use Rattle.incidence_check.specs.Incidences.{HasRegularIncidences}
use Rattle.square_check.specs.Squares.{HaveShapes, Commutes}

-- a complex with a field, the size of the stalk of each cell, and the block of each face
pub record SheafData (F : Type 0) : Type 0 where
  pub complex : CellComplex
  pub field : F
  pub stalks : List ℕ
  pub blocks : List Block

-- a cellular sheaf: regular incidences; a stalk for each cell, of at most 16 coordinates, and all of at most 4,096; a
-- matrix of scalars for each face, from stalk to stalk; and any two ways from a cell to one two dimensions up agree
pub record IsSheaf (K : Ops) (c : CellComplex) (stalks : List ℕ) (blocks : List Block) : Type 0 where
  pub regular : HasRegularIncidences c
  pub one_each : length stalks ≡ length c.dims
  pub low : All (λ size. size ≤ 16) stalks
  pub few : sum stalks ≤ 4096
  pub shapes : HaveShapes stalks c.faces blocks
  pub scalars : All (λ b. AllScalars K b.entries) blocks
  pub commutes : (s u : ℕ) → Commutes K c blocks s u
