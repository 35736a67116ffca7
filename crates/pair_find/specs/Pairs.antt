-- Pairs of cells in order, and the first candidate among them.
use Rattle.std.specs.Prelude.{◌≡◌, ◌<◌, ◌≤◌, ◌⊎◌, ℕ, true, false}
use Rattle.block_sparse.specs.StoredBlocks.{StoredBlocks}
use Rattle.block_sparse.specs.Candidates.{is_candidate}

-- p is q, or comes after it: pairs go by their first cell, then by their second
abbrev pub AtOrAfter : ℕ × ℕ → ℕ × ℕ → Type 0
AtOrAfter p q = (q.0 < p.0) ⊎ ((q.0 ≡ p.0) × (q.1 ≤ p.1))

-- p is the first candidate at or after a pair
pub record IsFirstFrom (v : StoredBlocks) (from p : ℕ × ℕ) : Type 0 where
  pub candidate : is_candidate v p.0 p.1 ≡ true
  pub at_or_after : AtOrAfter p from
  pub first : (q : ℕ × ℕ) → is_candidate v q.0 q.1 ≡ true → AtOrAfter q from → AtOrAfter q p

-- no candidate is at or after a pair
abbrev pub NoneFrom : StoredBlocks → ℕ × ℕ → Type 0
NoneFrom v from = (q : ℕ × ℕ) → AtOrAfter q from → is_candidate v q.0 q.1 ≡ false

-- p is the first candidate at or after a pair; where there is none, the first of all
abbrev pub IsNextFrom : StoredBlocks → ℕ × ℕ → ℕ × ℕ → Type 0
IsNextFrom v from p = IsFirstFrom v from p ⊎ (NoneFrom v from × IsFirstFrom v (0, 0) p)
