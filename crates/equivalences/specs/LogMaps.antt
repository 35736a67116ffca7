-- The maps of the steps of a log, cell by cell, and as joined matrices.
use Rattle.std.specs.Prelude.{◌≡◌, ℕ, suc, true, List, ◌++◌, ◌∷◌, [], Some, slice_get}
use Rattle.std.specs.List.{flat_map}
use Rattle.dense_blocks.specs.Field.{Ops}
use Rattle.dense_blocks.specs.Blocks.{matrix_of}
use Rattle.dense_blocks.specs.BlockFacts.{IsBlock}
use Rattle.dense_blocks.specs.declared.block.Block.{Block}
use Rattle.rising_lists.specs.Rising.{has}
use Rattle.cochain_vec.specs.Complexes.{CellularComplex, coordinates, total_size}
use Rattle.cochain_vec.specs.CochainComplexes.{IsCochainComplex}
use Rattle.block_complexes.specs.BlockComplexes.{BlockComplex, IsBlockComplex, cells, degree_of, size_of}
use Rattle.block_complexes.specs.Cochains.{complex_of, of_degree}
use Rattle.reduce_step.specs.declared.record.Step.{Step}
use Rattle.reduce_step.specs.Logs.{IsStepFrom}
use Rattle.equivalence_laws.specs.Equivalences.{GradedMatrix}
use Rattle.equivalence_laws.specs.RemovalMaps.{Removal, IsRemovalFrom}
use Rattle.equivalence_laws.specs.Composites.{AreRemovals, rest_of}
use Rattle.equivalence_laws.specs.Transposes.{transpose}
use Rattle.equivalence_laws.specs.CellMaps.{CellMaps, AreCellMapsOf}
use Rattle.equivalences.specs.Rows.{HasShape}
use Rattle.equivalences.specs.declared.equivalence.Equivalence.{Equivalence}

-- the removal of a step that leaves w
abbrev pub step_removal : Step → BlockComplex → Removal
step_removal step w = record { x = step.x; y = step.y; inverse = matrix_of step.inverse; rest = w }

-- the maps are those of removals from v, and the step is one from what these leave, and leaves w
pub record IsNextStep (K : Ops) (v : BlockComplex) (rs : List Removal) (m : CellMaps) (step : Step) (w : BlockComplex) :
    Type 0 where
  pub block_complex : IsBlockComplex K v
  pub cochain_complex : IsCochainComplex K (complex_of v)
  pub removals : AreRemovals K v rs
  pub maps : AreCellMapsOf K v rs m
  pub step_from : IsStepFrom K (rest_of v rs) step
  pub removal : IsRemovalFrom K (rest_of v rs) (step_removal step w)

-- the step is the next for the maps, of some removals
abbrev pub HasNextStep : Ops → CellMaps → Step → Type 0
HasNextStep K m step = (v : BlockComplex) × (rs : List Removal) × (w : BlockComplex) × IsNextStep K v rs m step w

-- maps of removals become, where the step is the next, those with its removal at the end
abbrev pub TakesStep : Ops → CellMaps → Step → CellMaps → Type 0
TakesStep K m step m' = (v : BlockComplex) (rs : List Removal) (w : BlockComplex) → IsNextStep K v rs m step w
    → AreCellMapsOf K v (rs ++ step_removal step w ∷ []) m'

-- at each cell that is left a row for each coordinate, of as many entries as cochains of C of its degree have; and h
-- from each degree to the one below
pub record HaveShapes (C : CellularComplex) (m : CellMaps) : Type 0 where
  pub pi : (c : ℕ) → has c (cells m.live) ≡ true
      → HasShape (size_of m.live c) (coordinates C (degree_of m.live c)) (m.pi c)
  pub iota : (c : ℕ) → has c (cells m.live) ≡ true
      → HasShape (size_of m.live c) (coordinates C (degree_of m.live c)) (m.iota c)
  pub h : (k : ℕ) → HasShape (coordinates C k) (coordinates C (suc k)) (m.h k)

-- block k has so many rows and columns, and this matrix
abbrev pub AreBlocksOf : (rows columns : ℕ → ℕ) → GradedMatrix → List Block → Type 0
AreBlocksOf rows columns A blocks = (k : ℕ) (b : Block) → slice_get blocks k ≡ Some b
    → IsBlock b (rows k) (columns k) (A k)

-- the rows at the cells that are left, one after another; the columns at them; and h
pub record AreJoined (C : CellularComplex) (m : CellMaps) (e : Equivalence) : Type 0 where
  pub pi : AreBlocksOf (λ k. total_size (of_degree k m.live)) (coordinates C)
      (λ k. flat_map (λ t. m.pi t.cell) (of_degree k m.live)) e.pi
  pub iota : AreBlocksOf (coordinates C) (λ k. total_size (of_degree k m.live))
      (λ k. transpose (coordinates C k) (flat_map (λ t. m.iota t.cell) (of_degree k m.live))) e.iota
  pub h : AreBlocksOf (coordinates C) (λ k. coordinates C (suc k)) m.h e.h
