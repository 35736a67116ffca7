-- Several removals, one after another; and block complexes that leave nothing to remove.
use Rattle.std.specs.Prelude.{◌≡◌, ℕ, List, [], ◌∷◌}
use Rattle.dense_blocks.specs.Field.{Ops}
use Rattle.dense_blocks.specs.MatrixFacts.{IsInverse}
use Rattle.block_complexes.specs.BlockComplexes.{BlockComplex, AreConsecutive, HaveSameMatrices, size_of}
use Rattle.removals.specs.Removals.{IsRemoval}

-- w is what is left of v once these pairs of cells have been removed, in order
abbrev pub IsAfter : Ops → BlockComplex → List (ℕ × ℕ) → BlockComplex → Type 0
IsAfter K v [] w = HaveSameMatrices v w
IsAfter K v (p ∷ pairs) w = (m : BlockComplex) × (a : List (List ℕ)) × IsRemoval K v p.0 p.1 a m × IsAfter K m pairs w

-- the matrix between two live cells of consecutive degree is square, and a is its inverse
pub record IsInverseAt (K : Ops) (v : BlockComplex) (s t : ℕ) (a : List (List ℕ)) : Type 0 where
  pub pair : AreConsecutive v.live s t
  pub square : size_of v.live t ≡ size_of v.live s
  pub inverse : IsInverse K (size_of v.live s) (v.matrix s t) a

-- the matrix from s to t is invertible: the pair may be removed
abbrev pub IsInvertibleAt : Ops → BlockComplex → ℕ → ℕ → Type 0
IsInvertibleAt K v s t = (a : List (List ℕ)) × IsInverseAt K v s t a

-- no pair may be removed
abbrev pub IsIrreducible : Ops → BlockComplex → Type 0
IsIrreducible K v = (s t : ℕ) → IsInvertibleAt K v s t → ⊥
