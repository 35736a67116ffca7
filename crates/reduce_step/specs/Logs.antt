-- Steps as removals: a step from a block complex, and lists of steps, each from what those before it leave.
use Rattle.std.specs.Prelude.{◌≡◌, ◌==◌, ◌&&◌, ℕ, Bool, true, false, List, [], ◌∷◌, map, not}
use Rattle.dense_blocks.specs.Field.{Ops}
use Rattle.dense_blocks.specs.Blocks.{matrix_of}
use Rattle.dense_blocks.specs.Inverses.{IsInverseBlock}
use Rattle.rising_lists.specs.Rising.{has, keys}
use Rattle.block_complexes.specs.BlockComplexes.{BlockComplex, AreConsecutive, HaveSameMatrices, cells, size_of}
use Rattle.removals.specs.Removals.{IsRemoval}
use Rattle.block_sparse.specs.StoredBlocks.{is_zero}
use Rattle.block_sparse.specs.Grids.{AreSized, part}
use Rattle.reduce_step.specs.declared.record.Step.{Step}

-- A is the joined matrix of those from the cells on the left to those below: its part at each pair is the matrix from
-- one to the other
abbrev pub IsJoinedOf : BlockComplex → List (ℕ × ℕ) → List (ℕ × ℕ) → List (List ℕ) → Type 0
IsJoinedOf v left below A = (s t : ℕ) → has s (keys left) ≡ true → has t (keys below) ≡ true
    → part left below A s t ≡ v.matrix s t

-- a nonzero matrix goes from s to t
abbrev pub is_nonzero : BlockComplex → ℕ → ℕ → Bool
is_nonzero v s t = not (is_zero (v.matrix s t))

-- a square block stands at the step's pair in v, and the step has its footprint: on the left the other live cells from
-- which a nonzero matrix goes to y, below the other live cells to which one goes from x, each with its size; the matrix
-- from x to y, with its two-sided inverse; and the joined matrices from the left to y, and from x to below
pub record IsStepFrom (K : Ops) (v : BlockComplex) (step : Step) : Type 0 where
  pub pair : AreConsecutive v.live step.x step.y
  pub nonzero : is_zero (v.matrix step.x step.y) ≡ false
  pub square : size_of v.live step.y ≡ size_of v.live step.x
  pub left : (s : ℕ) → has s (keys step.left) ≡ (has s (cells v.live) && is_nonzero v s step.y && not (s == step.x))
  pub below : (t : ℕ) → has t (keys step.below) ≡ (has t (cells v.live) && is_nonzero v step.x t && not (t == step.y))
  pub left_sized : AreSized v.live step.left
  pub below_sized : AreSized v.live step.below
  pub pivot : matrix_of step.pivot ≡ v.matrix step.x step.y
  pub inverse : IsInverseBlock K step.pivot step.inverse
  pub row : IsJoinedOf v step.left ((step.y, size_of v.live step.y) ∷ []) (matrix_of step.row)
  pub column : IsJoinedOf v ((step.x, size_of v.live step.x) ∷ []) step.below (matrix_of step.column)

-- each step is one from what those before it leave of v, and w is what all of them leave
abbrev pub AreStepsFrom : Ops → BlockComplex → List Step → BlockComplex → Type 0
AreStepsFrom K v [] w = HaveSameMatrices v w
AreStepsFrom K v (step ∷ steps) w = (m : BlockComplex) × IsStepFrom K v step
    × IsRemoval K v step.x step.y (matrix_of step.inverse) m × AreStepsFrom K m steps w

-- the pairs that steps remove, in order
abbrev pub pairs_of : List Step → List (ℕ × ℕ)
pairs_of steps = map (λ (step : Step). (step.x, step.y)) steps
