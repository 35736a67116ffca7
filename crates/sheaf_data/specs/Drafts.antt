-- Drafts: stalks and blocks that fit.
use Rattle.std.specs.Prelude.{◌≡◌, ℕ, ◌≤◌, List, length, sum, slice_index, All}
use Rattle.cell_complex.specs.declared.face.Face.{Face}
use Rattle.cell_complex.specs.Complexes.{CellComplex}
use Rattle.dense_blocks.specs.Field.{Ops}
use Rattle.dense_blocks.specs.Vectors.{AllScalars}
use Rattle.dense_blocks.specs.MatrixFacts.{zero_matrix}
use Rattle.dense_blocks.specs.Blocks.{matrix_of}
use Rattle.dense_blocks.specs.declared.block.Block.{Block}
use Rattle.square_check.specs.Squares.{HaveShapes}

-- a stalk for each cell, each of at most 16 coordinates, and all of at most 4,096
pub record AreStalks (dims stalks : List ℕ) : Type 0 where
  pub one_each : length stalks ≡ length dims
  pub low : All (λ size. size ≤ 16) stalks
  pub few : sum stalks ≤ 4096

-- a matrix of scalars for each face, in the order of the faces, from stalk to stalk
pub record AreBlocks (K : Ops) (faces : List Face) (stalks : List ℕ) (blocks : List Block) : Type 0 where
  pub shapes : HaveShapes stalks faces blocks
  pub scalars : All (λ b. AllScalars K b.entries) blocks

-- the block goes from the stalk of the face's cell s to that of its cell t
pub record HasShape (stalks : List ℕ) (f : Face) (b : Block) : Type 0 where
  pub cols : b.cols ≡ slice_index stalks f.s
  pub rows : b.rows ≡ slice_index stalks f.t

-- all entries are zero
abbrev pub IsZero : Block → Type 0
IsZero b = matrix_of b ≡ zero_matrix b.rows b.cols

-- the zero block of each face
pub record AreZeroBlocks (faces : List Face) (stalks : List ℕ) (blocks : List Block) : Type 0 where
  pub shapes : HaveShapes stalks faces blocks
  pub zero : All IsZero blocks

-- stalks and blocks that fit a complex, over the field of K
pub record IsDraft (K : Ops) (c : CellComplex) (stalks : List ℕ) (blocks : List Block) : Type 0 where
  pub stalks_fit : AreStalks c.dims stalks
  pub blocks_fit : AreBlocks K c.faces stalks blocks
