-- What a joined matrix is made of, row by row.
use Rattle.std.specs.Prelude.{◌≡◌, ◌<◌, ℕ, zero, suc, List, [], ◌∷◌, ◌++◌, Option, Some, None, take, slice_index_or}
use Rattle.std.specs.Prelude.{All}
use Rattle.std.specs.Prelude.{option_map, slice_index, unwrap_or}
use Rattle.std.specs.List.{flat_map}
use Rattle.dense_blocks.specs.Vectors.{zeros}
use Rattle.dense_blocks.specs.MatrixFacts.{zero_matrix}
use Rattle.dense_blocks.specs.Blocks.{matrix_of}
use Rattle.dense_blocks.specs.declared.block.Block.{Block}
use Rattle.block_rows.specs.BlockRows.{scalar_block}
use Rattle.rising_lists.specs.Rising.{ByCell, entry, line_of}
use Rattle.block_sparse.specs.Grids.{width, window}

-- the matrix of a block, or h rows of w zeros where there is none
abbrev pub grid_block : Option Block → ℕ → ℕ → List (List ℕ)
grid_block None h w = zero_matrix h w
grid_block (Some b) h w = matrix_of b

-- the row at k of a block, or w zeros where there is none
abbrev pub corner_row : Option Block → ℕ → ℕ → List ℕ
corner_row None w k = zeros w
corner_row (Some b) w k = slice_index_or (matrix_of b) k []

-- the blocks at the listed cells have h rows and the widths of the cells
abbrev pub AreShaped : ByCell Block → ℕ → List (ℕ × ℕ) → Type 0
AreShaped line h left = All (λ l. (b : Block) → entry line l.0 ≡ Some b → (b.rows ≡ h) × (b.cols ≡ l.1)) left

-- the blocks at the listed cells have a row at k
abbrev pub HaveRow : ByCell Block → ℕ → List (ℕ × ℕ) → Type 0
HaveRow line k left = All (λ l. (b : Block) → entry line l.0 ≡ Some b → k < b.rows) left

-- the row at k of the joined matrix of a row of blocks
abbrev pub joined_row : ByCell Block → List (ℕ × ℕ) → ℕ → List ℕ
joined_row line left k = flat_map (λ l. corner_row (entry line l.0) l.1 k) left

-- an entry, or w zeros where there is none
abbrev pub scalar_row : Option ℕ → ℕ → List ℕ
scalar_row None w = zeros w
scalar_row (Some e) w = e ∷ []

-- a row of the joined matrix of a row of entries
abbrev pub entry_row : ByCell ℕ → List (ℕ × ℕ) → List ℕ
entry_row line left = flat_map (λ l. scalar_row (entry line l.0) l.1) left

-- the first n rows of the joined matrix of a row of blocks, one after another
abbrev pub joined_rows : ByCell Block → List (ℕ × ℕ) → ℕ → List ℕ
joined_rows line left zero = []
joined_rows line left (suc n) = joined_rows line left n ++ joined_row line left n

-- the entries of the joined matrix, row after row
abbrev pub joined_entries : ByCell (ByCell Block) → List (ℕ × ℕ) → List (ℕ × ℕ) → List ℕ
joined_entries rows left below = flat_map (λ t. joined_rows (line_of rows t.0) left t.1) below

-- the part of a matrix, h rows from one on, at the i-th listed cell is the block there
abbrev pub IsSamePart : ByCell Block → List (ℕ × ℕ) → List (List ℕ) → ℕ → ℕ → ℕ → Type 0
IsSamePart line left A row h i = window row h (width (take i left)) (slice_index_or left i (0, 0)).1 A
    ≡ grid_block (entry line (slice_index_or left i (0, 0)).0) h (slice_index_or left i (0, 0)).1

-- at the listed cells there are no entries but where one row and one column belong to the cell
abbrev pub AreScalars : ByCell ℕ → ℕ → List (ℕ × ℕ) → Type 0
AreScalars line h left = All (λ l. (e : ℕ) → entry line l.0 ≡ Some e → (h ≡ 1) × (l.1 ≡ 1)) left

-- the part of a matrix, h rows from one on, at the i-th listed cell is the entry there
abbrev pub IsSameScalar : ByCell ℕ → List (ℕ × ℕ) → List (List ℕ) → ℕ → ℕ → ℕ → Type 0
IsSameScalar line left A row h i = window row h (width (take i left)) (slice_index_or left i (0, 0)).1 A
    ≡ grid_block (option_map scalar_block (entry line (slice_index_or left i (0, 0)).0)) h
    (slice_index_or left i (0, 0)).1

-- an entry of a row of a matrix is that of a line at the i-th listed cell, 0 where there is none
abbrev pub IsSameEntry : ByCell ℕ → List (ℕ × ℕ) → List ℕ → ℕ → Type 0
IsSameEntry line left there i = slice_index there i ≡ unwrap_or (entry line (slice_index_or left i (0, 0)).0) 0
