-- Block complexes with a matrix of the right shape at all cells, live or not: then sums over cells need no word on
-- which are live. Each block complex is the same as such a one.
use Rattle.std.proofs.Common.{◌≡◌, ◌≢◌, ◌≤◌, All, ℕ, ◌+◌, Bool, true, false, cond, ◌&&◌, List, refl, ap, ap₂}
use Rattle.std.proofs.lemmas.Bool.{and_parts}
use Rattle.dense_blocks.specs.Field.{Ops}
use Rattle.dense_blocks.specs.FieldLaws.{IsField}
use Rattle.dense_blocks.specs.MatrixFacts.{zero_matrix}
use Rattle.dense_blocks.proofs.Shapes.{Matrix, to_matrix, from_matrix}
use Rattle.dense_blocks.proofs.MatrixLaws.{zero_matrix-matrix}
use Rattle.rising_lists.specs.Rising.{IsRising, has}
use Rattle.block_complexes.specs.BlockComplexes.{BlockComplex, AreBothLive, IsBlockComplex, HaveSameMatrices, cells}
use Rattle.block_complexes.specs.BlockComplexes.{degree_of, size_of}

pub record IsFull (K : Ops) (v : BlockComplex) : Type 0 where
  pub rising : IsRising (cells v.live)
  pub sizes : All (λ l. 1 ≤ l.2) v.live
  pub shape : (s t : ℕ) → Matrix K (size_of v.live t) (size_of v.live s) (v.matrix s t)
  pub apart : (s t : ℕ) → degree_of v.live t ≢ degree_of v.live s + 1 → v.matrix s t ≡ zero_matrix (size_of v.live t)
      (size_of v.live s)

-- zero matrices where one of the cells is not live
abbrev pub filled : BlockComplex → BlockComplex
filled v = record {
  live = v.live;
  matrix = λ s t. cond (has s (cells v.live) && has t (cells v.live)) (v.matrix s t)
      (zero_matrix (size_of v.live t) (size_of v.live s));
}

pub same-filled : (v : BlockComplex) → HaveSameMatrices v (filled v)
same-filled v = record {
  live = refl;
  matrices = λ s t l. ap (λ b. cond b (v.matrix s t) (zero_matrix (size_of v.live t) (size_of v.live s)))
      (ap₂ ◌&&◌ l.from l.to);
}

module _ (K : Ops) (F : IsField K) (v : BlockComplex) (is : IsBlockComplex K v) where
  abbrev zero_between : ℕ → ℕ → List (List ℕ)
  zero_between s t = zero_matrix (size_of v.live t) (size_of v.live s)

  abbrev both : ℕ → ℕ → Bool
  both s t = has s (cells v.live) && has t (cells v.live)

  both-live : (s t : ℕ) → both s t ≡ true → AreBothLive v.live s t
  both-live s t e = let p = and_parts (has s (cells v.live)) (has t (cells v.live)) e in record { from = p.0; to = p.1 }

  shape_at : (s t : ℕ) (b : Bool) → both s t ≡ b → Matrix K (size_of v.live t) (size_of v.live s)
      (cond b (v.matrix s t) (zero_between s t))
  shape_at s t true e = to_matrix K (size_of v.live t) (size_of v.live s) (v.matrix s t)
      (is.matrices s t (both-live s t e))
  shape_at s t false e = zero_matrix-matrix K F (size_of v.live t) (size_of v.live s)

  apart_at : (s t : ℕ) (b : Bool) → both s t ≡ b → degree_of v.live t ≢ degree_of v.live s + 1
      → cond b (v.matrix s t) (zero_between s t) ≡ zero_between s t
  apart_at s t true e n = is.apart s t (both-live s t e) n
  apart_at s t false e n = refl

  pub filled-full : IsFull K (filled v)
  filled-full = record {
    rising = is.rising;
    sizes = is.sizes;
    shape = λ s t. shape_at s t (both s t) refl;
    apart = λ s t n. apart_at s t (both s t) refl n;
  }

pub full-block_complex : (K : Ops) (v : BlockComplex) → IsFull K v → IsBlockComplex K v
full-block_complex K v full = record {
  rising = full.rising;
  sizes = full.sizes;
  matrices = λ s t l. from_matrix K (size_of v.live t) (size_of v.live s) (v.matrix s t) (full.shape s t);
  apart = λ s t l n. full.apart s t n;
}
