-- Vectors that complete a list of vectors to the span of others: representatives of a quotient.
use Rattle.std.specs.Prelude.{◌≡◌, ◌≢◌, ◌⊎◌, ℕ, ◌<◌, List, [], ◌∷◌, ◌++◌, length, slice_index_or, All, Contains}
use Rattle.dense_blocks.specs.Field.{Ops}
use Rattle.dense_blocks.specs.Vectors.{IsVector, zeros, combination}
use Rattle.dense_blocks.specs.Spans.{IsCombination}

-- no combination of these that is one of the others has a coefficient that is not zero
abbrev pub IsIndependentOf : Ops → ℕ → List (List ℕ) → List (List ℕ) → Type 0
IsIndependentOf K n others vectors =
    (b : List ℕ) → IsVector K (length vectors) b → IsCombination K n others (combination K n b vectors)
    → b ≡ zeros (length vectors)

-- some of the candidates, independent of the others, which together with the others span the first so many candidates
pub record Completes (K : Ops) (n : ℕ) (others candidates : List (List ℕ)) (count : ℕ) (chosen : List (List ℕ)) :
    Type 0 where
  pub candidates_all : All (Contains candidates) chosen
  pub spans : (i : ℕ) → i < count → IsCombination K n (others ++ chosen) (slice_index_or candidates i [])
  pub independent : IsIndependentOf K n others chosen

-- the candidate is a combination of what was taken and is left out, or it is none and is taken
abbrev pub IsConsidered : Ops → ℕ → List (List ℕ) → List ℕ → List (List ℕ) → Type 0
IsConsidered K n taken candidate new =
    (IsCombination K n taken candidate × (new ≡ taken))
    ⊎ (((c : List ℕ) → combination K n c taken ≢ candidate) × (new ≡ taken ++ candidate ∷ []))
