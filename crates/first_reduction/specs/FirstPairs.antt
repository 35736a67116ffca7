-- Reductions that take the first pair each time.
use Rattle.std.specs.Prelude.{◌≡◌, ◌≤◌, ℕ, List, [], ◌∷◌}
use Rattle.dense_blocks.specs.Field.{Ops}
use Rattle.block_complexes.specs.BlockComplexes.{BlockComplex, HaveSameMatrices}
use Rattle.removals.specs.Removals.{IsRemoval}
use Rattle.removals.specs.Reductions.{IsInvertibleAt, IsIrreducible}

-- no pair of cells with an invertible matrix comes before (x, y), in order of the first cell and then of the second
abbrev pub IsFirstInvertible : Ops → BlockComplex → ℕ → ℕ → Type 0
IsFirstInvertible K v x y = (s t : ℕ) → IsInvertibleAt K v s t → (x ≤ s) × (s ≡ x → y ≤ t)

-- w is what is left of v once the first pair that may be removed has been removed, again and again, until none is left;
-- these are the pairs, in order
abbrev pub IsFirstReduction : Ops → BlockComplex → List (ℕ × ℕ) → BlockComplex → Type 0
IsFirstReduction K v [] w = IsIrreducible K v × HaveSameMatrices v w
IsFirstReduction K v (p ∷ pairs) w = (m : BlockComplex) × (a : List (List ℕ)) × IsFirstInvertible K v p.0 p.1
    × IsRemoval K v p.0 p.1 a m × IsFirstReduction K m pairs w
