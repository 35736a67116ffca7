-- Which restrictions may have changed.
use Rattle.std.specs.Prelude.{◌<◌, List, length, All}
use Rattle.cell_complex.specs.Complexes.{CellComplex}
use Rattle.dense_blocks.specs.Field.{Ops}
use Rattle.dense_blocks.specs.declared.block.Block.{Block}
use Rattle.square_check.specs.declared.touched.Touched.{Touched}
use Rattle.square_check.specs.declared.touched.Touched.TheVariants.{All as Every, Faces}
use Rattle.square_check.specs.TouchedFaces.{OthersCommute}

-- the places are those of faces, and all squares through none of these faces commute
abbrev pub AreTouched : Ops → CellComplex → List Block → Touched → Type 0
AreTouched K c blocks Every = Unit {0}
AreTouched K c blocks (Faces places) = All (λ p. p < length c.faces) places.now × OthersCommute K c blocks places.now
