-- Why a draft is no sheaf.
use Rattle.std.specs.Prelude.{◌≡◌, ℕ, List, Some, length, slice_get}
use Rattle.cell_complex.specs.Complexes.{CellComplex}
use Rattle.dense_blocks.specs.Field.{Ops}
use Rattle.dense_blocks.specs.declared.block.Block.{Block}
use Rattle.incidence_check.specs.Incidences.{HasRegularIncidences, faults}
use Rattle.square_check.specs.Answers.{IsFirstOf}
use Rattle.square_check.specs.Squares.{Commutes}
use Rattle.sheaf_data.specs.declared.fault.SealFault.{SealFault}
use Rattle.sheaf_data.specs.declared.fault.SealFault.TheVariants.{Complex, Noncommuting}

-- the incidences are not regular, with their first fault; or they are, with the first square that does not commute
abbrev pub IsFault : Ops → CellComplex → List Block → SealFault → Type 0
IsFault K c blocks (Complex fault) = (HasRegularIncidences c → ⊥) × (slice_get (faults c) 0 ≡ Some fault)
IsFault K c blocks (Noncommuting s u) = HasRegularIncidences c × IsFirstOf (Commutes K c blocks) (length c.dims) s u
