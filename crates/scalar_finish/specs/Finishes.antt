-- Reductions to the end: the first pair with a nonzero matrix, again and again, until none is left.
use Rattle.std.specs.Prelude.{◌≡◌, ◌≤◌, false, ℕ, List, [], ◌∷◌}
use Rattle.dense_blocks.specs.Field.{Ops}
use Rattle.block_complexes.specs.BlockComplexes.{BlockComplex, AreConsecutive, HaveSameMatrices}
use Rattle.block_sparse.specs.StoredBlocks.{is_zero}
use Rattle.removals.specs.Removals.{IsRemoval}
use Rattle.equivalence_laws.specs.Bases.{HasNoBlock}

-- a nonzero matrix goes from x to y, one degree up, and none from s to t where (s, t) comes before (x, y), in order of
-- the first cell and then of the second
pub record IsFirstNonzero (v : BlockComplex) (x y : ℕ) : Type 0 where
  pub pair : AreConsecutive v.live x y
  pub nonzero : is_zero (v.matrix x y) ≡ false
  pub first : (s t : ℕ) → AreConsecutive v.live s t → is_zero (v.matrix s t) ≡ false → (x ≤ s) × (s ≡ x → y ≤ t)

-- w is what is left of v once the first such pair has been removed, again and again, until no block is left; these are
-- the pairs, in order
abbrev pub IsFinish : Ops → BlockComplex → List (ℕ × ℕ) → BlockComplex → Type 0
IsFinish K v [] w = HasNoBlock v × HaveSameMatrices v w
IsFinish K v (p ∷ pairs) w = (m : BlockComplex) × (a : List (List ℕ)) × IsFirstNonzero v p.0 p.1
    × IsRemoval K v p.0 p.1 a m × IsFinish K m pairs w
