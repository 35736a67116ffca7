-- Block complexes: live cells, and a matrix for each ordered pair of them. Nothing else: no storage, no flags.
use Rattle.std.specs.Prelude.{◌≡◌, ◌≢◌, ◌≤◌, ◌==◌, ◌+◌, ℕ, true, List, [], ◌∷◌, if◌then◌else◌, map, All}
use Rattle.dense_blocks.specs.Field.{Ops}
use Rattle.dense_blocks.specs.MatrixFacts.{IsMatrix, zero_matrix}
use Rattle.rising_lists.specs.Rising.{IsRising, has}

-- the live cells, each with its degree and its size; and for cells s and t the matrix from s to t, of which only what
-- it is at two live cells counts
pub record BlockComplex : Type 0 where
  pub live : List (ℕ × ℕ × ℕ)
  pub matrix : ℕ → ℕ → List (List ℕ)

abbrev pub cells : List (ℕ × ℕ × ℕ) → List ℕ
cells live = map (λ l. l.0) live

-- a number that each live cell has; 0 for a cell that is not live
abbrev pub of_cell : (ℕ × ℕ × ℕ → ℕ) → List (ℕ × ℕ × ℕ) → ℕ → ℕ
of_cell number [] c = 0
of_cell number (l ∷ ls) c = if l.0 == c then number l else of_cell number ls c

abbrev pub degree_of : List (ℕ × ℕ × ℕ) → ℕ → ℕ
degree_of live c = of_cell (λ l. l.1) live c

abbrev pub size_of : List (ℕ × ℕ × ℕ) → ℕ → ℕ
size_of live c = of_cell (λ l. l.2) live c

abbrev pub live_size : List (ℕ × ℕ × ℕ) → ℕ
live_size [] = 0
live_size (l ∷ ls) = l.2 + live_size ls

-- both cells are live
pub record AreBothLive (live : List (ℕ × ℕ × ℕ)) (s t : ℕ) : Type 0 where
  pub from : has s (cells live) ≡ true
  pub to : has t (cells live) ≡ true

-- two live cells of consecutive degree
pub record AreConsecutive (live : List (ℕ × ℕ × ℕ)) (s t : ℕ) : Type 0 where
  pub from : has s (cells live) ≡ true
  pub to : has t (cells live) ≡ true
  pub degrees : degree_of live t ≡ degree_of live s + 1

-- v is a block complex over the field: the live cells rise, and each has a coordinate; from a live cell s to a live
-- cell t goes a matrix of scalars, with a row for each coordinate of t and a column for each of s; it is zero where the
-- degrees are not consecutive
pub record IsBlockComplex (K : Ops) (v : BlockComplex) : Type 0 where
  pub rising : IsRising (cells v.live)
  pub sizes : All (λ l. 1 ≤ l.2) v.live
  pub matrices : (s t : ℕ) → AreBothLive v.live s t → IsMatrix K (size_of v.live t) (size_of v.live s) (v.matrix s t)
  pub apart : (s t : ℕ) → AreBothLive v.live s t → degree_of v.live t ≢ degree_of v.live s + 1
      → v.matrix s t ≡ zero_matrix (size_of v.live t) (size_of v.live s)

-- the same live cells, and the same matrix from each to each: v and w are the same block complex
pub record HaveSameMatrices (v w : BlockComplex) : Type 0 where
  pub live : w.live ≡ v.live
  pub matrices : (s t : ℕ) → AreBothLive v.live s t → w.matrix s t ≡ v.matrix s t
