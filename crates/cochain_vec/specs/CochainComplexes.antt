-- Where the coboundary of a coboundary is zero.
use Rattle.std.specs.Prelude.{◌≡◌, ℕ, zero, suc, List}
use Rattle.dense_blocks.specs.Field.{Ops}
use Rattle.dense_blocks.specs.Vectors.{zeros}
use Rattle.cochain_vec.specs.Complexes.{CellularComplex, coordinates, IsCochain, coboundary}

-- the coboundary of the coboundary of each cochain is the zero cochain
abbrev pub IsCochainComplex : Ops → CellularComplex → Type 0
IsCochainComplex K F = (k : ℕ) (z : List ℕ) → IsCochain K F k z → coboundary K F (suc k) (coboundary K F k z)
    ≡ zeros (coordinates F (suc (suc k)))
