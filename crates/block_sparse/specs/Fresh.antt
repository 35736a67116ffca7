-- The rows and columns that a joined matrix gives.
use Rattle.std.specs.Prelude.{◌≡◌, ◌<◌, ◌==◌, ℕ, false, List, [], Option, Some, None, if◌then◌else◌, length, take}
use Rattle.std.specs.Prelude.{slice_index_or}
use Rattle.dense_blocks.specs.declared.block.Block.{Block}
use Rattle.rising_lists.specs.Rising.{ByCell, keys, entry, entry_after, line_of}
use Rattle.open_columns.specs.declared.mark.Mark.{Mark}
use Rattle.block_sparse.specs.StoredBlocks.{is_zero}
use Rattle.block_sparse.specs.Grids.{width, window, IsPart}

-- what a column notes of a part of h rows and w columns
abbrev pub mark_of : ℕ → ℕ → List (List ℕ) → Option Mark
mark_of h w A = if is_zero A then None else Some (record { flagged = false; square = h == w })

-- a row of blocks once the parts of h rows of a matrix have come in at the listed cells
pub record IsFreshRow (A : List (List ℕ)) (row h : ℕ) (left : List (ℕ × ℕ)) (old new : ByCell Block) : Type 0 where
  pub parts : List (Option Block)
  pub count : length parts ≡ length left
  pub are : (i : ℕ) → i < length left → IsPart (slice_index_or parts i None) h (slice_index_or left i (0, 0)).1
      (window row h (width (take i left)) (slice_index_or left i (0, 0)).1 A)
  pub entries : (q : ℕ) → entry new q ≡ entry_after (keys left) parts (entry old q) q

-- a column once the parts of w columns of a matrix have been noted at the listed cells
pub record IsFreshColumn (A : List (List ℕ)) (col w : ℕ) (below : List (ℕ × ℕ)) (old new : ByCell Mark) : Type 0 where
  pub marks : List (Option Mark)
  pub count : length marks ≡ length below
  pub are : (j : ℕ) → j < length below → slice_index_or marks j None
      ≡ mark_of (slice_index_or below j (0, 0)).1 w
      (window (width (take j below)) (slice_index_or below j (0, 0)).1 col w A)
  pub entries : (q : ℕ) → entry new q ≡ entry_after (keys below) marks (entry old q) q

-- the line at a place of a list of lines
abbrev pub line_at : {T : Type 0} → List (ByCell T) → ℕ → ByCell T
line_at lines i = slice_index_or lines i (record { cells = []; values = [] })

-- the fresh rows of the first n of the listed cells
abbrev pub AreFreshRows : List (List ℕ) → List (ℕ × ℕ) → List (ℕ × ℕ) → ByCell (ByCell Block) → List (ByCell Block) → ℕ
    → Type 0
AreFreshRows A left below rows fresh n = (j : ℕ) → j < n
    → IsFreshRow A (width (take j below)) (slice_index_or below j (0, 0)).1 left
    (line_of rows (slice_index_or below j (0, 0)).0) (line_at fresh j)

-- the fresh columns of the first n of the listed cells
abbrev pub AreFreshColumns : List (List ℕ) → List (ℕ × ℕ) → List (ℕ × ℕ) → ByCell (ByCell Mark) → List (ByCell Mark) → ℕ
    → Type 0
AreFreshColumns A left below columns fresh n = (i : ℕ) → i < n
    → IsFreshColumn A (width (take i left)) (slice_index_or left i (0, 0)).1 below
    (line_of columns (slice_index_or left i (0, 0)).0) (line_at fresh i)
