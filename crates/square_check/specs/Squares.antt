-- Sheaves whose restrictions commute.
use Rattle.std.specs.Prelude.{◌≡◌, ℕ, List, Option, Some, length, slice_get, slice_index, position, All}
use Rattle.std.specs.Option.{option_map, option_and_then}
use Rattle.cell_complex.specs.declared.face.Face.{Face}
use Rattle.cell_complex.specs.Complexes.{CellComplex, joins, middles}
use Rattle.dense_blocks.specs.Field.{Ops}
use Rattle.dense_blocks.specs.Matrices.{product}
use Rattle.dense_blocks.specs.Blocks.{matrix_of}
use Rattle.dense_blocks.specs.declared.block.Block.{Block}

-- each block goes from the stalk of a face's cell s to that of its cell t
pub record HaveShapes (stalks : List ℕ) (faces : List Face) (blocks : List Block) : Type 0 where
  pub count : length blocks ≡ length faces
  pub cols : (p : ℕ) (f : Face) (b : Block) → slice_get faces p ≡ Some f → slice_get blocks p ≡ Some b
      → b.cols ≡ slice_index stalks f.s
  pub rows : (p : ℕ) (f : Face) (b : Block) → slice_get faces p ≡ Some f → slice_get blocks p ≡ Some b
      → b.rows ≡ slice_index stalks f.t

-- the block of s in t, where s is a face of t
abbrev pub restriction : CellComplex → List Block → ℕ → ℕ → Option Block
restriction c blocks s t = option_and_then (slice_get blocks) (position (joins s t) c.faces)

-- F(t, u) F(s, t), where s is a face of t and t one of u
abbrev pub through : Ops → CellComplex → List Block → ℕ → ℕ → ℕ → Option (List (List ℕ))
through K c blocks s t u =
    option_and_then (λ low. option_map (λ up. product K low.cols (matrix_of up) (matrix_of low))
    (restriction c blocks t u)) (restriction c blocks s t)

-- any two cells between s and u give one product
abbrev pub Commutes : Ops → CellComplex → List Block → ℕ → ℕ → Type 0
Commutes K c blocks s u = All (λ t. All (λ v. through K c blocks s t u ≡ through K c blocks s v u) (middles c s u))
    (middles c s u)
