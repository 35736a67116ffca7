-- What the coordinates of a block complex tell of it, and what a reduction to the end tells.
use Rattle.std.specs.Prelude.{◌≡◌, ℕ, List}
use Rattle.dense_blocks.specs.Field.{Ops}
use Rattle.dense_blocks.specs.FieldLaws.{IsField}
use Rattle.cochain_vec.specs.Complexes.{coordinates, coboundary}
use Rattle.cochain_vec.specs.Cohomology.{HasDimension}
use Rattle.cochain_vec.specs.CochainComplexes.{IsCochainComplex}
use Rattle.block_complexes.specs.BlockComplexes.{BlockComplex, IsBlockComplex, HaveSameMatrices}
use Rattle.block_complexes.specs.Cochains.{complex_of}
use Rattle.removals.specs.Reductions.{IsAfter}
use Rattle.equivalence_laws.specs.Bases.{HasNoBlock}
use Rattle.scalar_finish.specs.Splits.{IsSplit}
use Rattle.scalar_finish.specs.Finishes.{IsFinish}

-- w is a block complex over the field, and has the coordinates and the coboundary of v in each degree
pub record SplitKeeps (K : Ops) (v w : BlockComplex) : Type 0 where
  pub block_complex : IsBlockComplex K w
  pub sizes : (k : ℕ) → coordinates (complex_of w) k ≡ coordinates (complex_of v) k
  pub coboundaries : (k : ℕ) (z : List ℕ) → coboundary K (complex_of w) k z ≡ coboundary K (complex_of v) k z

-- a block complex over a field that is split into its coordinates keeps all that
abbrev pub SplitKeepsAll : Type 0
SplitKeepsAll = (K : Ops) (v w : BlockComplex) → IsField K → IsBlockComplex K v → IsSplit v w → SplitKeeps K v w

-- the same block complex is split into the same
abbrev pub SplitsAreSame : Type 0
SplitsAreSame = (K : Ops) (v v' w w' : BlockComplex) → IsBlockComplex K v → HaveSameMatrices v v' → IsSplit v w
    → IsSplit v' w' → HaveSameMatrices w w'

-- the pairs of a reduction to the end leave no block
abbrev pub FinishIsAfter : Type 0
FinishIsAfter = (K : Ops) (v w : BlockComplex) (pairs : List (ℕ × ℕ)) → IsField K → IsBlockComplex K v
    → IsFinish K v pairs w → IsAfter K v pairs w × HasNoBlock w

-- the same block complex has one reduction to the end: the same pairs, and the same is left
abbrev pub FinishesAreEqual : Type 0
FinishesAreEqual = (K : Ops) (v v' w w' : BlockComplex) (ps qs : List (ℕ × ℕ)) → IsField K → IsBlockComplex K v
    → HaveSameMatrices v v' → IsFinish K v ps w → IsFinish K v' qs w' → (ps ≡ qs) × HaveSameMatrices w w'

-- the coordinates that are left in a degree, once a block complex has been split and reduced to the end, are as many as
-- the dimension of its cohomology
abbrev pub FinishCountsDimensions : Type 0
FinishCountsDimensions = (K : Ops) (v s w : BlockComplex) (pairs : List (ℕ × ℕ)) → IsField K → IsBlockComplex K v
    → IsCochainComplex K (complex_of v) → IsSplit v s → IsFinish K s pairs w
    → (k : ℕ) → HasDimension K (complex_of v) k (coordinates (complex_of w) k)
