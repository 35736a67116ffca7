-- Joined matrices of the blocks from some cells to others, and their parts.
use Rattle.std.specs.Prelude.{◌≡◌, ◌≢◌, ◌==◌, ◌+◌, ◌<◌, ◌⊎◌, ℕ, true, false, List, [], ◌∷◌, Option, Some, None}
use Rattle.std.specs.Prelude.{if◌then◌else◌, map, take, drop, All, MatchOption}
use Rattle.dense_blocks.specs.BlockFacts.{IsBlock}
use Rattle.dense_blocks.specs.declared.block.Block.{Block}
use Rattle.rising_lists.specs.Rising.{has, keys}
use Rattle.block_complexes.specs.BlockComplexes.{cells, size_of}
use Rattle.block_sparse.specs.StoredBlocks.{StoredBlocks, StoredBlock, is_zero, matrix}

-- how many coordinates cells with sizes have together
abbrev pub width : List (ℕ × ℕ) → ℕ
width [] = 0
width (l ∷ ls) = l.1 + width ls

-- the part of a list that belongs to a cell, where the cells come one after another
abbrev pub segment : {A : Type 0} → List (ℕ × ℕ) → List A → ℕ → List A
segment [] xs c = []
segment (l ∷ ls) xs c = if l.0 == c then take l.1 xs else segment ls (drop l.1 xs) c

-- the part from s to t of a matrix with a column for each coordinate of the left cells and a row for each of those
-- below
abbrev pub part : List (ℕ × ℕ) → List (ℕ × ℕ) → List (List ℕ) → ℕ → ℕ → List (List ℕ)
part left below A s t = map (λ row. segment left row s) (segment below A t)

-- the columns of a matrix that belong to a cell on the left
abbrev pub columns_of : List (ℕ × ℕ) → List (List ℕ) → ℕ → List (List ℕ)
columns_of left A s = map (λ row. segment left row s) A

-- the matrix of a block that stands, if one does
abbrev pub block_matrix : Option StoredBlock → Option (List (List ℕ))
block_matrix None = None
block_matrix (Some b) = Some b.matrix

-- the matrix, if it is not zero
abbrev pub nonzero : List (List ℕ) → Option (List (List ℕ))
nonzero A = if is_zero A then None else Some A

-- what stands where a matrix is put: nothing if it is zero, else the block without a flag
abbrev pub as_block : List (List ℕ) → Option StoredBlock
as_block A = if is_zero A then None else Some (record { matrix = A; flagged = false })

-- A is the joined matrix of the blocks from the cells on the left to those below: its part at each pair is the matrix
-- from one to the other
abbrev pub IsJoined : StoredBlocks → List (ℕ × ℕ) → List (ℕ × ℕ) → List (List ℕ) → Type 0
IsJoined v left below A = (s t : ℕ) → has s (keys left) ≡ true → has t (keys below) ≡ true → part left below A s t
    ≡ matrix v s t

-- (s, t) is the first pair of a cell on the left and a cell below, in order of s and then of t, at which A has another
-- part than the joined matrix
pub record IsFirstOther (v : StoredBlocks) (left below : List (ℕ × ℕ)) (A : List (List ℕ)) (s t : ℕ) : Type 0 where
  pub on_left : has s (keys left) ≡ true
  pub is_below : has t (keys below) ≡ true
  pub other : part left below A s t ≢ matrix v s t
  pub first : (p q : ℕ) → has p (keys left) ≡ true → has q (keys below) ≡ true → (p < s) ⊎ ((p ≡ s) × (q < t))
      → part left below A p q ≡ matrix v p q

-- the cells are live and have these sizes
abbrev pub AreSized : List (ℕ × ℕ × ℕ) → List (ℕ × ℕ) → Type 0
AreSized live sized = All (λ l. (has l.0 (cells live) ≡ true) × (size_of live l.0 ≡ l.1)) sized

-- h rows from one on, and of each w entries from one on
abbrev pub window : ℕ → ℕ → ℕ → ℕ → List (List ℕ) → List (List ℕ)
window row h col w A = map (λ r. take w (drop col r)) (take h (drop row A))

-- the block of a matrix of h rows and w columns, none where it is zero
abbrev pub IsPart : Option Block → ℕ → ℕ → List (List ℕ) → Type 0
IsPart p h w A = MatchOption p (is_zero A ≡ true) (λ b. IsBlock b h w A × (is_zero A ≡ false))
