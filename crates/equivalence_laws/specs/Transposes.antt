-- Transposed matrices.
use Rattle.std.specs.Prelude.{ℕ, zero, suc, List, [], ◌∷◌, map, drop, slice_index}

-- the columns of a matrix of n columns, each as a row
abbrev pub transpose : ℕ → List (List ℕ) → List (List ℕ)
transpose zero A = []
transpose (suc n) A = map (λ row. slice_index row 0) A ∷ transpose n (map (λ row. drop 1 row) A)
