-- What the removal of a pair of cells keeps, and what several keep.
use Rattle.std.specs.Prelude.{ℕ, List}
use Rattle.dense_blocks.specs.Field.{Ops}
use Rattle.dense_blocks.specs.FieldLaws.{IsField}
use Rattle.cochain_vec.specs.CochainComplexes.{IsCochainComplex}
use Rattle.block_complexes.specs.BlockComplexes.{BlockComplex, IsBlockComplex, HaveSameMatrices}
use Rattle.block_complexes.specs.Cochains.{complex_of}
use Rattle.block_complexes.specs.Differentials.{IsDifferential}
use Rattle.removals.specs.Removals.{IsRemoval}
use Rattle.removals.specs.Reductions.{IsAfter}

-- for every block complex v over a field, and w what is left of it without a pair of cells
abbrev pub ForEachRemoval : (Ops → BlockComplex → BlockComplex → Type 0) → Type 0
ForEachRemoval P = (K : Ops) (v w : BlockComplex) (x y : ℕ) (a : List (List ℕ)) → IsField K → IsBlockComplex K v
    → IsRemoval K v x y a w → P K v w

-- w is a block complex over the field
abbrev pub RemovalKeepsBlockComplex : Type 0
RemovalKeepsBlockComplex = ForEachRemoval (λ K v w. IsBlockComplex K w)

-- the matrices of w are a differential where those of v are
abbrev pub RemovalKeepsDifferential : Type 0
RemovalKeepsDifferential = ForEachRemoval (λ K v w. IsDifferential K v → IsDifferential K w)

-- the same of cochains: the coboundary of the coboundary of each is zero in w where it is in v
abbrev pub RemovalKeepsCochainComplex : Type 0
RemovalKeepsCochainComplex = ForEachRemoval (λ K v w. IsCochainComplex K (complex_of v)
    → IsCochainComplex K (complex_of w))

-- what is left after several removals is a block complex over the field, and a differential where that before was one
pub record KeepAll (K : Ops) (v w : BlockComplex) : Type 0 where
  pub block_complex : IsBlockComplex K w
  pub differential : IsDifferential K v → IsDifferential K w

abbrev pub RemovalsKeepAll : Type 0
RemovalsKeepAll = (K : Ops) (v w : BlockComplex) (pairs : List (ℕ × ℕ)) → IsField K → IsBlockComplex K v
    → IsAfter K v pairs w → KeepAll K v w

-- the pairs and their order leave one block complex at most: no choice of inverses, and nothing off the live cells,
-- counts
abbrev pub RemovalsLeaveOne : Type 0
RemovalsLeaveOne = (K : Ops) (v w m : BlockComplex) (pairs : List (ℕ × ℕ)) → IsField K → IsBlockComplex K v
    → IsAfter K v pairs w → IsAfter K v pairs m
    → HaveSameMatrices w m
