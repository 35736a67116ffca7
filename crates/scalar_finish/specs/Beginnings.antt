-- What a reduction keeps on the way: how far it has come, and what one step makes.
use Rattle.std.specs.Prelude.{◌≡◌, ◌<◌, ◌≤◌, ◌⊎◌, ◌++◌, ℕ, true, false, All, List, [], ◌∷◌, slice_index}
use Rattle.dense_blocks.specs.Field.{Ops}
use Rattle.dense_blocks.specs.Blocks.{matrix_of}
use Rattle.dense_blocks.specs.MatrixFacts.{zero_matrix}
use Rattle.rising_lists.specs.Rising.{has}
use Rattle.block_complexes.specs.BlockComplexes.{BlockComplex, AreBothLive, AreConsecutive, IsBlockComplex, cells}
use Rattle.block_complexes.specs.BlockComplexes.{size_of}
use Rattle.block_sparse.specs.StoredBlocks.{is_zero}
use Rattle.removals.specs.Removals.{IsRemoval}
use Rattle.reduce_step.specs.declared.record.Step.{Step}
use Rattle.reduce_step.specs.Logs.{IsStepFrom, AreStepsFrom, pairs_of}
use Rattle.scalar_finish.specs.Finishes.{IsFinish}

-- these pairs, and then what reduces w to the end, reduce v to the end
abbrev pub IsBeginning : Ops → BlockComplex → List (ℕ × ℕ) → BlockComplex → Type 0
IsBeginning K v pairs w = (rest : List (ℕ × ℕ)) (u : BlockComplex) → IsFinish K w rest u → IsFinish K v (pairs ++ rest) u

-- each matrix from x is zero
abbrev pub HasNoneFrom : BlockComplex → ℕ → Type 0
HasNoneFrom v x = (t : ℕ) → AreBothLive v.live x t → v.matrix x t ≡ zero_matrix (size_of v.live t) (size_of v.live x)

-- a nonzero matrix goes from x to y, and none to a cell before y
pub record IsFirstFrom (v : BlockComplex) (x y : ℕ) : Type 0 where
  pub pair : AreConsecutive v.live x y
  pub nonzero : is_zero (v.matrix x y) ≡ false
  pub first : (t : ℕ) → AreConsecutive v.live x t → is_zero (v.matrix x t) ≡ false → y ≤ t

-- the step removes x and y from v, and leaves w
pub record IsStepAt (K : Ops) (v : BlockComplex) (x y : ℕ) (step : Step) (w : BlockComplex) : Type 0 where
  pub from : step.x ≡ x
  pub to : step.y ≡ y
  pub step_from : IsStepFrom K v step
  pub removal : IsRemoval K v step.x step.y (matrix_of step.inverse) w

-- x has been visited: nothing goes from it, and all stays; or the first pair of x has been removed, and its step added
abbrev pub IsVisit : Ops → BlockComplex → List Step → ℕ → BlockComplex → List Step → Type 0
IsVisit K v steps x w longer = (HasNoneFrom v x × (w ≡ v) × (longer ≡ steps))
    ⊎ ((y : ℕ) × (step : Step) × IsFirstFrom v x y × IsStepAt K v x y step w × (longer ≡ steps ++ step ∷ []))

-- these steps lead from v to w, nothing goes from the first n cells of v that are left, and all cells have size 1
pub record IsOnTheWay (K : Ops) (v : BlockComplex) (n : ℕ) (steps : List Step) (w : BlockComplex) : Type 0 where
  pub units : All (λ l. l.2 ≡ 1) w.live
  pub block_complex : IsBlockComplex K w
  pub steps_are : AreStepsFrom K v steps w
  pub beginning : IsBeginning K v (pairs_of steps) w
  pub within : (s : ℕ) → has s (cells w.live) ≡ true → has s (cells v.live) ≡ true
  pub done : (j : ℕ) → j < n → HasNoneFrom w (slice_index (cells v.live) j)
