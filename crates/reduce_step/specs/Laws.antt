-- What is true of lists of steps.
use Rattle.std.specs.Prelude.{List, [], ◌∷◌, ◌++◌}
use Rattle.dense_blocks.specs.Field.{Ops}
use Rattle.dense_blocks.specs.Blocks.{matrix_of}
use Rattle.block_complexes.specs.BlockComplexes.{BlockComplex, HaveSameMatrices}
use Rattle.removals.specs.Removals.{IsRemoval}
use Rattle.removals.specs.Reductions.{IsAfter}
use Rattle.reduce_step.specs.declared.record.Step.{Step}
use Rattle.reduce_step.specs.Logs.{IsStepFrom, AreStepsFrom, pairs_of}

-- what steps leave is what is left after their pairs
abbrev pub StepsAreRemovals : Type 0
StepsAreRemovals = (K : Ops) (steps : List Step) (v w : BlockComplex) → AreStepsFrom K v steps w
    → IsAfter K v (pairs_of steps) w

-- a step from what steps leave may be added to them
abbrev pub StepsAreOneMore : Type 0
StepsAreOneMore = (K : Ops) (steps : List Step) (step : Step) (u v w : BlockComplex) → AreStepsFrom K u steps v
    → IsStepFrom K v step → IsRemoval K v step.x step.y (matrix_of step.inverse) w
    → AreStepsFrom K u (steps ++ step ∷ []) w

-- steps from the same block complex to the same are the same steps
abbrev pub StepsKeepSame : Type 0
StepsKeepSame = (K : Ops) (steps : List Step) (u v w m : BlockComplex) → HaveSameMatrices u v → HaveSameMatrices w m
    → AreStepsFrom K u steps w → AreStepsFrom K v steps m
